-- Lines put so far, and the lines to come.
use Rattle.std.proofs.Common.{◌≡◌, ◌<◌, ◌≤◌, ◌+◌, ℕ, List, [], ◌∷◌, ◌++◌, length, get_or, drop, Option, Result, refl, sym, ap, ◌∙◌, append_assoc, append-nil}
use Rattle.std.proofs.lemmas.List.{at_drop_more, at_drop_all}
use Rattle.std.specs.Io.KnownBytes.{Appends}
use Rattle.std.specs.Prelude.{IsErr}
use Rattle.std.proofs.KnownBytes.{Appends-nil, Appends-trans}
use Rattle.slh_io.specs.Devices.{LetsThrough, Puts}
use Rattle.slh_vectors.specs.Cases.{test_view, views}
use Rattle.slh_vectors.specs.Report.{line_text, lines_from}
use Rattle.slh_vectors.specs.declared.outcome.Outcome.{Outcome}
use Rattle.slh_vectors.specs.declared.test.Test.{Test}
use Rattle.slh_io.proofs.Texts.{stopped_after}

-- the lines from the i-th test on
abbrev pub rest_of : List Test → List Outcome → ℕ → List ℕ
rest_of ts os i = lines_from (i + 1) (views (drop i ts)) (drop i os)

-- what was put and the lines to come are all the lines
pub record PutSoFar (old new : Option (List ℕ)) (ts : List Test) (os : List Outcome) (i : ℕ) : Type 0 where
  pub front : List ℕ
  pub put : Appends old new front
  pub whole : front ++ rest_of ts os i ≡ lines_from 1 (views ts) os

pub put_none : (a : Option (List ℕ)) (ts : List Test) (os : List Outcome) → PutSoFar a a ts os 0
put_none a ts os = record { front = []; put = Appends-nil a; whole = refl }

next : (ts : List Test) (os : List Outcome) (i : ℕ) (t : Test) (o : Outcome) → i < length ts → i < length os → t ≡ get_or ts i t → o ≡ get_or os i o
    → rest_of ts os i ≡ line_text (i + 1) (test_view t) o ++ rest_of ts os (i + 1)
unfolding lines_from
next ts os i t o lt lo is io =
    at_drop_more (λ (l : List Test). lines_from (i + 1) (views l) (drop i os)) ts i t lt
    ∙ at_drop_more (λ (l : List Outcome). lines_from (i + 1) (views (get_or ts i t ∷ drop (i + 1) ts)) l) os i o lo
    ∙ ap (λ (x : Test). line_text (i + 1) (test_view x) (get_or os i o) ++ rest_of ts os (i + 1)) (sym is)
    ∙ ap (λ (x : Outcome). line_text (i + 1) (test_view t) x ++ rest_of ts os (i + 1)) (sym io)

pub put_next : (a b c : Option (List ℕ)) (ts : List Test) (os : List Outcome) (i : ℕ) (t : Test) (o : Outcome) → Appends b c (line_text (i + 1) (test_view t) o) → PutSoFar a b ts os i
    → i < length ts → i < length os → t ≡ get_or ts i t → o ≡ get_or os i o → PutSoFar a c ts os (i + 1)
put_next a b c ts os i t o p s lt lo is io = record {
  front = s.front ++ line_text (i + 1) (test_view t) o;
  put = Appends-trans a b c s.front (line_text (i + 1) (test_view t) o) s.put p;
  whole = append_assoc s.front (line_text (i + 1) (test_view t) o) (rest_of ts os (i + 1)) ∙ ap (λ (l : List ℕ). s.front ++ l) (sym (next ts os i t o lt lo is io)) ∙ s.whole;
}

pub put_stopped : {T E : Type 0} (r : Result T E) (a b c : Option (List ℕ)) (ts : List Test) (os : List Outcome) (i : ℕ) (t : Test) (o : Outcome) → IsErr r → LetsThrough b c (line_text (i + 1) (test_view t) o) → PutSoFar a b ts os i
    → i < length ts → i < length os → t ≡ get_or ts i t → o ≡ get_or os i o → Puts a c r (lines_from 1 (views ts) os)
put_stopped r a b c ts os i t o bad p s lt lo is io =
    rw (← s.whole, next ts os i t o lt lo is io, ← append_assoc s.front (line_text (i + 1) (test_view t) o) (rest_of ts os (i + 1))) (stopped_after r a b c s.front (line_text (i + 1) (test_view t) o) (rest_of ts os (i + 1)) bad s.put p)

pub put_whole : (a b : Option (List ℕ)) (ts : List Test) (os : List Outcome) (i : ℕ) → length ts ≤ i → PutSoFar a b ts os i → Appends a b (lines_from 1 (views ts) os)
unfolding lines_from
put_whole a b ts os i end s =
    let none : rest_of ts os i ≡ [] = at_drop_all (λ (l : List Test). lines_from (i + 1) (views l) (drop i os)) ts i end in
    rw (← s.whole, none, append-nil s.front) s.put
