-- From what a command replies over known files to what its answer tells.
use Rattle.std.proofs.Common.{◌≡◌, ◌↔◌, inl, inr, ℕ, Bool, true, false, IsTrue, [], Option, Some, None, IfSome, Ok, refl, sym, ap, subst, ◌∙◌, lit≤, codes}
use Rattle.clap.specs.Words.{Text}
use Rattle.slh_core.specs.Keys.{IsGeneratedKey, Key}
use Rattle.slh_core.specs.Messages.{pure_message}
use Rattle.slh_core.specs.Signatures.{IsValid}
use Rattle.slh_core.specs.declared.form.Form.{Form}
use Rattle.slh_core.specs.declared.form.Form.TheVariants.{Pure}
use Rattle.slh_io.specs.Devices.{FilesState}
use Rattle.slh_key_files.specs.KeyFile.{key_file}
use Rattle.slh_key_files.specs.Lines.{line}
use Rattle.slh_key_files.specs.declared.key_kind.KeyKind.{KeyKind}
use Rattle.slh_key_files.specs.declared.key_kind.KeyKind.TheVariants.{Public, Secret}
use Rattle.slh_tool.specs.Keys.{HoldsKey}
use Rattle.slh_tool.specs.Options.{HasForm, context_of, form_of}
use Rattle.slh_tool.specs.Reading.{IsFile}
use Rattle.slh_tool.specs.Replies.{ChecksKey, IsValidIn, IsVerdict, JudgesFiles, VerifiesMessage}
use Rattle.slh_tool_tests.specs.Answers.{Tells, TellsConsistency, TellsValidity}
use Rattle.slh_tool_tests.proofs.Asking.{pure_form, verify_options}

-- a file that is read has the bytes that are known of it
file_is : (files : FilesState) (path bytes file : Text) → files.bytes_at path ≡ Some file → IsFile files path bytes → bytes ≡ file
file_is files path bytes file e h = let P : Option Text → Type 0 = λ known. IfSome known (λ whole. bytes ≡ whole) in subst P e h.known

-- a key that is read is the one of the known bytes
key_is : (kind : KeyKind) (files : FilesState) (path file : Text) (key : Key) → files.bytes_at path ≡ Some file → HoldsKey kind files path key → key_file kind file ≡ Ok key
key_is kind files path file key e h = ap (key_file kind) (sym (file_is files path h.0 file e h.1)) ∙ h.2

-- a truth value and its line tell the fact that it stands for
tells : (fact : Type 0) (affirmed denied : Text) (answer : Bool) (status : ℕ) (text : Text) → (IsTrue answer ↔ fact)
    → IsVerdict answer (line affirmed) (line denied) status text → Tells fact affirmed denied status text
tells fact affirmed denied true status text truth verdict = inl (truth.0 refl, (verdict.0, verdict.1))
tells fact affirmed denied false status text truth verdict = inr (λ holds. (let h : false ≡ true = truth.1 holds in cc h), (verdict.0, verdict.1))

pub tells_consistency : (files : FilesState) (path file : Text) (status : ℕ) (text : Text) → files.bytes_at path ≡ Some file
    → ChecksKey path files status text → TellsConsistency file status text
tells_consistency files path file status text e h =
    (h.0, key_is Secret files path file h.0 e h.1, tells (IsGeneratedKey h.0) (codes "consistent") (codes "inconsistent") h.2.0 status text h.2.1 h.2.2)

no_context : (context : Text) → context_of None ≡ Some context → context ≡ []
unfolding context_of
no_context context e = cc e

no_prehash : (form : Form) → form_of None ≡ Some form → form ≡ Pure
unfolding form_of
no_prehash form e = cc e

-- with an empty context the validity is that of the signature alone
pure_truth : (answer : Bool) (message signature : Text) (key : Key) → (IsTrue answer ↔ IsValidIn Pure [] message signature key)
    → (IsTrue answer ↔ IsValid key (pure_message [] message) signature)
pure_truth answer message signature key truth = (λ t. (truth.0 t).1, λ valid. truth.1 (lit≤ tt, valid))

-- files that are judged in the pure form with an empty context are judged by their known bytes
pub truth_is : (files : FilesState) (message signature : Text) (key : Key) (context : Text) (form : Form) (answer : Bool)
    → files.bytes_at (codes "message") ≡ Some message → files.bytes_at (codes "signature") ≡ Some signature
    → HasForm pure_form context form → JudgesFiles verify_options files key context form answer → (IsTrue answer ↔ IsValid key (pure_message [] message) signature)
truth_is files message signature key context form answer m s asked judged =
    let P : Text → Text → Text → Form → Type 0 = λ c a b p. IsTrue answer ↔ IsValidIn p c a b key in
    let c = no_context context asked.0 in
    let p = no_prehash form asked.1 in
    let a = file_is files (codes "message") judged.message message m judged.read in
    let b = file_is files (codes "signature") judged.signature signature s judged.signature_read in
    pure_truth answer message signature key
    (subst (λ (x : Text). P [] message x Pure) b (subst (λ (x : Text). P [] x judged.signature Pure) a
    (subst (λ (x : Form). P [] judged.message judged.signature x) p (subst (λ (x : Text). P x judged.message judged.signature form) c judged.truth))))

pub tells_validity : (files : FilesState) (file message signature : Text) (status : ℕ) (text : Text) → files.bytes_at (codes "key") ≡ Some file
    → files.bytes_at (codes "message") ≡ Some message → files.bytes_at (codes "signature") ≡ Some signature
    → VerifiesMessage verify_options files status text → TellsValidity file message signature status text
tells_validity files file message signature status text k m s h =
    let judged = h.2.1 in
    let truth = truth_is files message signature h.0 judged.0 judged.1.0 h.2.0 m s judged.1.1 judged.1.2 in
    (h.0, key_is Public files (codes "key") file h.0 k h.1, tells (IsValid h.0 (pure_message [] message) signature) (codes "valid") (codes "invalid") h.2.0 status text truth h.2.2)
