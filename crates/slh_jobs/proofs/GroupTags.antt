-- Tags of a group, of the digests in its lanes.
use Rattle.std.proofs.Common.{◌≡◌, ℕ, ◌+◌, ◌<◌, ◌≤◌, ◌==◌, if◌then◌else◌, List, ◌++◌, take, sym, ap, ◌∙◌, arith, lit≤}
use Rattle.slh_params.specs.Bits.{to_byte}
use Rattle.slh_params.specs.Params.{Params}
use Rattle.slh_hash.specs.HashFunctions.{SHA_256, SHA_512, category_function}
use Rattle.slh_hash.specs.Keyed.{hmac}
use Rattle.slh_lanes.specs.Lanes.{value_at}
use Rattle.slh_lanes.proofs.FirstBytes.{value_front}
use Rattle.slh_jobs.specs.Ranges.{node_given}
use Rattle.slh_jobs.specs.Tags.{node_tag}
use Rattle.slh_jobs.specs.declared.shape.Shape.{Shape}

-- the first 16 bytes of a digest are a tag where n is 16
one_tag : (p : Params) (key front : List ℕ) (values : List (List ℕ)) (j number : ℕ) (node : List ℕ) → p.n ≡ 16
    → value_at values j 32 ≡ hmac SHA_256 key (front ++ to_byte number 4 ++ node) → value_at values j 16 ≡ node_tag p key front number node
one_tag p key front values j number node n digest =
    let f : SHA_256 ≡ category_function p = sym (ap (λ (m : ℕ). if m == 16 then SHA_256 else SHA_512) n) in
    value_front values j 16 32 (lit≤ tt) ∙ ap (take 16) digest
    ∙ (λ k. take (sym n k) (hmac (f k) key (front ++ to_byte number 4 ++ node)))

-- the tags of the nodes from r on, which are in the lanes
pub group_tags : (p : Params) (key front : List ℕ) (shape : Shape) (bytes : List ℕ) (job first r used : ℕ) (nodes values : List (List ℕ)) → p.n ≡ 16 → used ≤ 8
    → ((j : ℕ) → j < used → value_at nodes j 16 ≡ node_given shape bytes (first + (r + j)))
    → ((j : ℕ) → j < 8 → value_at values j 32 ≡ hmac SHA_256 key (front ++ to_byte (job + r + j) 4 ++ value_at nodes j 16))
    → (j : ℕ) → j < used → value_at values j 16 ≡ node_tag p key front (job + (r + j)) (node_given shape bytes (first + (r + j)))
group_tags p key front shape bytes job first r used nodes values n few held digests j lt =
    let number : job + r + j ≡ job + (r + j) = omega arith in
    one_tag p key front values j (job + r + j) (value_at nodes j 16) n (digests j (omega (arith, lt, few)))
    ∙ (λ k. node_tag p key front (number k) (held j lt k))
