-- From what a command replies over a folder to what its answer tells of the folder's files.
use Rattle.std.proofs.Common.{◌≡◌, ℕ, List, Some, sym, subst, codes}
use Rattle.clap.specs.Words.{Text}
use Rattle.slh_io.specs.Devices.{SourceState}
use Rattle.slh_tool.specs.Requests.{check, verify}
use Rattle.slh_tool.specs.Runs.{Replies}
use Rattle.slh_tool_tests.specs.Answers.{RepliesOver, TellsConsistency, TellsValidity, files_of}
use Rattle.slh_tool_tests.specs.Folder.{NamedFile, bytes_in}
use Rattle.slh_tool_tests.proofs.Asking.{check_asked, check_words, reply_of, verify_asked, verify_options, verify_words}
use Rattle.slh_tool_tests.proofs.Telling.{tells_consistency, tells_validity}

-- what a command replies over a folder of these files, which has not failed
pub replies_over : (words : List Text) (given files : List NamedFile) (failures : ℕ) (old new : SourceState) (status : ℕ) (text out : Text)
    → given ≡ files → failures ≡ 0 → out ≡ text → Replies words (record { bytes_at = bytes_in given; failures = failures }) old new status text → RepliesOver words files status out
replies_over words given files failures old new status text out f k t r =
    let P : List NamedFile → ℕ → Text → Type 0 = λ fs n s. Replies words (record { bytes_at = bytes_in fs; failures = n }) old new status s in
    record { old = old; new = new; reply = subst (P files 0) (sym t) (subst (λ (n : ℕ). P files n text) k (subst (λ (fs : List NamedFile). P fs failures text) f r)) }

pub consistency_over : (words : List Text) (files : List NamedFile) (file : Text) (status : ℕ) (text : Text) → words ≡ check_words
    → bytes_in files (codes "key") ≡ Some file → RepliesOver words files status text → TellsConsistency file status text
consistency_over words files file status text w e r =
    let replies : Replies check_words (files_of files) r.old r.new status text = subst (λ (ws : List Text). Replies ws (files_of files) r.old r.new status text) w r.reply in
    tells_consistency (files_of files) (codes "key") file status text e
    (reply_of check_words (check (codes "key")) (files_of files) r.old r.new status text check_asked replies)

pub validity_over : (words : List Text) (files : List NamedFile) (file message signature : Text) (status : ℕ) (text : Text) → words ≡ verify_words
    → bytes_in files (codes "key") ≡ Some file → bytes_in files (codes "message") ≡ Some message → bytes_in files (codes "signature") ≡ Some signature
    → RepliesOver words files status text → TellsValidity file message signature status text
validity_over words files file message signature status text w k m s r =
    let replies : Replies verify_words (files_of files) r.old r.new status text = subst (λ (ws : List Text). Replies ws (files_of files) r.old r.new status text) w r.reply in
    tells_validity (files_of files) file message signature status text k m s
    (reply_of verify_words (verify verify_options) (files_of files) r.old r.new status text verify_asked replies)
