-- What arguments ask for, as `clap` reads them.
use Rattle.std.proofs.Common.{◌≡◌, inl, inr, ℕ, List, [], ◌∷◌, None, refl, sym, subst, ◌∙◌, codes}
use Rattle.clap.specs.Faults.{defaults_fault, walk_fault}
use Rattle.clap.specs.Kinds.{IsAmong, Kinds}
use Rattle.clap.specs.Walk.{walked}
use Rattle.clap.specs.Words.{Text}
use Rattle.clap.specs.declared.error.ErrorKind.TheVariants.{DisplayHelp, DisplayVersion}
use Rattle.slh_io.specs.Devices.{FilesState, SourceState}
use Rattle.slh_tool.specs.Replies.{IsReply}
use Rattle.slh_tool.specs.Requests.{Asked, Asks, FormOptions, VerifyOptions, check, verify}
use Rattle.slh_tool.specs.Runs.{Replies}

abbrev pub check_words : List Text
check_words = codes "check" ∷ codes "--key" ∷ codes "key" ∷ []

pub check_asked : Asks check_words (check (codes "key"))
unfolding walk_fault walked defaults_fault
check_asked = (refl, refl)

abbrev pub verify_words : List Text
verify_words = codes "verify" ∷ codes "--key" ∷ codes "key" ∷ codes "--message" ∷ codes "message" ∷ codes "--signature" ∷ codes "signature" ∷ []

-- the pure form with an empty context
abbrev pub pure_form : FormOptions
pure_form = record { context = None; prehash = None }

abbrev pub verify_options : VerifyOptions
verify_options = record { key = codes "key"; message = codes "message"; signature = codes "signature"; form = pure_form }

pub verify_asked : Asks verify_words (verify verify_options)
unfolding walk_fault walked defaults_fault
verify_asked = (refl, refl)

-- arguments that ask for a command are answered by it
pub reply_of : (words : List Text) (a : Asked) (files : FilesState) (old new : SourceState) (status : ℕ) (text : Text)
    → Asks words a → Replies words files old new status text → IsReply a files old new status text
reply_of words a files old new status text asks (inl reply) =
    let same : reply.0 ≡ a = (let e = sym reply.1.1 ∙ asks.1 in cc e) in
    subst (λ (x : Asked). IsReply x files old new status text) same reply.2
reply_of words a files old new status text asks (inr (inl help)) =
    let P : Kinds → Type 0 = λ kinds. IsAmong DisplayHelp kinds in absurd (subst P asks.0 help.1)
reply_of words a files old new status text asks (inr (inr version)) =
    let P : Kinds → Type 0 = λ kinds. IsAmong DisplayVersion kinds in absurd (subst P asks.0 version.1)
