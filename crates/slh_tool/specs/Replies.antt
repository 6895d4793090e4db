-- The output of each command, and the reasons of its refusals.
use Rattle.std.specs.Prelude.{◌≡◌, ⊤, ◌⊎◌, ◌↔◌, ℕ, ◌<◌, ◌≤◌, List, Bool, true, false, IsTrue, [], ◌∷◌, ◌++◌, length, Option, Some, None, Ok, codes}
use Rattle.clap.specs.Words.{Kinds, Text, fault_of, subcommand_of}
use Rattle.hex.specs.Hex.{encode_lower}
use Rattle.slh_core.specs.Keys.{IsGeneratedKey, Key, public_of}
use Rattle.slh_core.specs.Messages.{message_in_form}
use Rattle.slh_core.specs.Signatures.{IsValid}
use Rattle.slh_core.specs.declared.form.Form.{Form}
use Rattle.slh_core.specs.declared.form.Form.TheVariants.{Pure}
use Rattle.slh_subtrees.specs.CutTrees.{CutTrees}
use Rattle.slh_io.specs.Devices.{FilesState, SourceState}
use Rattle.slh_key_files.specs.KeyFile.{key_text, upgraded}
use Rattle.slh_key_files.specs.Lines.{line}
use Rattle.slh_key_files.specs.declared.key_kind.KeyKind.TheVariants.{Public, Secret}
use Rattle.slh_params.specs.Label.{set_of_label}
use Rattle.slh_params.specs.ParamSet.{sets}
use Rattle.slh_params.specs.declared.param_set.ParamSet.{ParamSet}
use Rattle.slh_tool.specs.Cuts.{HasCutting, IsCutting, RefusesCutting}
use Rattle.slh_tool.specs.Keys.{HoldsKey, IsGeneratedFrom, RefusesAnyKey, RefusesKey, RefusesSeedsOf}
use Rattle.slh_tool.specs.Options.{HasForm, RefusesForm, random_of, signature_of}
use Rattle.slh_tool.specs.Reading.{IsFile, RefusesFile}
use Rattle.slh_tool.specs.Arguments.{slh_app}
use Rattle.slh_tool.specs.Requests.{Asked, KeygenOptions, SignOptions, VerifyOptions, asked_by}
use Rattle.slh_tool.specs.Requests as requests
use Rattle.slh_tool.specs.Seeds.{RefusesSeeds, seeds_limit}
use Rattle.slh_tool.specs.Sets.{lines}
use Rattle.slh_tool.specs.TestRuns.{RefusesVectors, RunsVectors}
use Rattle.slh_tool.specs.declared.fault.Fault.{Fault}
use Rattle.slh_tool.specs.declared.fault.Fault.TheVariants.{BadOption, ContextTooLong, NoMemory, UnknownSet}

-- `params`: the line of the set of a label, or those of the standard's sets
abbrev pub ShowsSets : Option Text → Text → Type 0
ShowsSets None text = text ≡ lines sets
ShowsSets (Some name) text = (set : ParamSet) × (set_of_label name ≡ Some set) × (text ≡ lines (set ∷ []))

abbrev pub RefusesSets : Option Text → Fault → Type 0
RefusesSets name NoMemory = ⊤
RefusesSets (Some name) UnknownSet = set_of_label name ≡ None
RefusesSets name fault = ⊥

-- `root`: PK.seed and PK.root as lower-case digits, and a line feed
abbrev pub ShowsRoot : Text → SourceState → SourceState → Text → Type 0
ShowsRoot name old new text = (key : Key) × IsGeneratedFrom name old new key × (text ≡ encode_lower (public_of key).bytes ++ 10 ∷ [])

-- `keygen`: the secret key file, whatever the cutting
abbrev pub WritesKey : KeygenOptions → SourceState → SourceState → Text → Type 0
WritesKey options old new text = (key : Key) × IsGeneratedFrom options.set old new key × HasCutting options.work key.set
    × (text ≡ key_text Secret key)

-- why there is none: no set has the label, or the options give no cutting, or the input has no seeds
abbrev pub RefusesKeygen : KeygenOptions → SourceState → SourceState → Fault → Type 0
RefusesKeygen options old new NoMemory = ⊤
RefusesKeygen options old new UnknownSet = set_of_label options.set ≡ None
RefusesKeygen options old new fault = (set : ParamSet) × (set_of_label options.set ≡ Some set)
    × (RefusesCutting options.work set fault ⊎ (HasCutting options.work set × RefusesSeeds set old new fault))

-- `public`: the public key file of a secret key file
abbrev pub WritesPublic : Text → FilesState → Text → Type 0
WritesPublic path files text = (key : Key) × HoldsKey Secret files path key
    × (text ≡ key_text Public (public_of key))

-- the status and the line of a truth value
abbrev pub IsVerdict : Bool → Text → Text → ℕ → Text → Type 0
IsVerdict true affirmed denied status text = (status ≡ 0) × (text ≡ affirmed)
IsVerdict false affirmed denied status text = (status ≡ 1) × (text ≡ denied)

-- `check`: whether PK.root in a secret key file is the root that the seeds give
abbrev pub ChecksKey : Text → FilesState → ℕ → Text → Type 0
ChecksKey path files status text = (key : Key) × HoldsKey Secret files path key
    × ((answer : Bool) × (IsTrue answer ↔ IsGeneratedKey key)
    × IsVerdict answer (line (codes "consistent")) (line (codes "inconsistent")) status text)

-- `upgrade`: the key file of version 2 of a key file of either kind and version
abbrev pub UpgradesKey : Text → FilesState → Text → Type 0
UpgradesKey path files text = (file : Text) × IsFile files path file × (upgraded file ≡ Ok text)

-- a signature with a key, whatever the cutting
pub record SignsWith (options : SignOptions) (files : FilesState) (key : Key) (text : Text) : Type 0 where
  pub context : Text
  pub form : Form
  pub random : Option Text
  pub message : Text
  pub cutting : CutTrees
  pub asked : HasForm options.form context form
  pub randomizer : random_of key.set options.random ≡ Some random
  pub cut : IsCutting options.work key.set cutting
  pub read : IsFile files options.message message
  pub short : length context ≤ 255
  pub signed : text ≡ signature_of key (message_in_form form context message) random

-- `sign`: the signature with the key of a secret key file
abbrev pub SignsMessage : SignOptions → FilesState → Text → Type 0
SignsMessage options files text = (key : Key) × HoldsKey Secret files options.key key × SignsWith options files key text

-- why no options of `sign` are given
abbrev pub RefusesSignForm : SignOptions → ParamSet → Fault → Type 0
RefusesSignForm options set fault = RefusesForm options.form fault ⊎ ((fault ≡ BadOption) × (random_of set options.random ≡ None))

-- the options of `sign` have valid values, with this context
abbrev pub HasSignForm : SignOptions → ParamSet → Text → Type 0
HasSignForm options set context = ((form : Form) × HasForm options.form context form)
    × ((random : Option Text) × (random_of set options.random ≡ Some random))

-- why no message is signed under a context: the message, then the context's length
abbrev pub RefusesMessage : SignOptions → Text → FilesState → FilesState → Fault → Type 0
RefusesMessage options context old new fault = RefusesFile old new options.message fault
    ⊎ (((message : Text) × IsFile old options.message message) × ((fault ≡ NoMemory) ⊎ ((fault ≡ ContextTooLong) × (255 < length context))))

-- why nothing is signed with a key that was read: an option on the form, then the cutting, then the message
abbrev pub RefusesSigning : SignOptions → ParamSet → FilesState → FilesState → Fault → Type 0
RefusesSigning options set old new fault = RefusesSignForm options set fault
    ⊎ ((context : Text) × HasSignForm options set context × (RefusesCutting options.work set fault
    ⊎ (HasCutting options.work set × RefusesMessage options context old new fault)))

abbrev pub RefusesSign : SignOptions → FilesState → FilesState → Fault → Type 0
RefusesSign options old new fault = RefusesKey Secret old new options.key fault
    ⊎ ((key : Key) × HoldsKey Secret old options.key key × RefusesSigning options key.set old new fault)

-- whether the context is short enough and the signature valid (FIPS 205, Algorithms 24 and 25)
abbrev pub IsValidIn : Form → Text → Text → Text → Key → Type 0
IsValidIn form context message signature key =
    (length context ≤ 255) × IsValid key (message_in_form form context message) signature

-- the truth of a signature of a message file, in the pure form
abbrev pub JudgesMessage : FilesState → Text → Key → Text → Text → Bool → Type 0
JudgesMessage files path key context signature answer =
    (message : Text) × IsFile files path message × (IsTrue answer ↔ IsValidIn Pure context message signature key)

-- the truth of a signature file with a key, in a form
pub record JudgesFiles (options : VerifyOptions) (files : FilesState) (key : Key) (context : Text) (form : Form) (answer : Bool) : Type 0 where
  pub message : Text
  pub signature : Text
  pub read : IsFile files options.message message
  pub signature_read : IsFile files options.signature signature
  pub truth : IsTrue answer ↔ IsValidIn form context message signature key

abbrev pub JudgesWith : VerifyOptions → FilesState → Key → Bool → Type 0
JudgesWith options files key answer = (context : Text) × ((form : Form) × HasForm options.form context form
    × JudgesFiles options files key context form answer)

-- `verify`: the truth of a signature file with the key of a public key file
abbrev pub VerifiesMessage : VerifyOptions → FilesState → ℕ → Text → Type 0
VerifiesMessage options files status text = (key : Key) × HoldsKey Public files options.key key
    × ((answer : Bool) × JudgesWith options files key answer × IsVerdict answer (line (codes "valid")) (line (codes "invalid")) status text)

-- why the files give no verdict: the message, or then the signature, is not read
abbrev pub RefusesFiles : VerifyOptions → FilesState → FilesState → Fault → Type 0
RefusesFiles options old new fault = RefusesFile old new options.message fault
    ⊎ ((message : Text) × IsFile old options.message message × RefusesFile old new options.signature fault)

-- why nothing is verified with a key that was read: an option, then the files
abbrev pub RefusesVerifying : VerifyOptions → FilesState → FilesState → Fault → Type 0
RefusesVerifying options old new fault = RefusesForm options.form fault
    ⊎ ((context : Text) × ((form : Form) × HasForm options.form context form × RefusesFiles options old new fault))

abbrev pub RefusesVerify : VerifyOptions → FilesState → FilesState → Fault → Type 0
RefusesVerify options old new fault = RefusesKey Public old new options.key fault
    ⊎ ((key : Key) × HoldsKey Public old options.key key × RefusesVerifying options old new fault)

-- `--version`: the version is that of the file VERSION
abbrev pub version_line : Text
version_line = line (codes "slh 1.0.0")

-- a command's status and output, by the files and by the states of the input before and after
abbrev pub IsReply : Asked → FilesState → SourceState → SourceState → ℕ → Text → Type 0
IsReply (requests.params name) files old new status text = (status ≡ 0) × ShowsSets name text
IsReply (requests.root name) files old new status text = (status ≡ 0) × ShowsRoot name old new text
IsReply (requests.keygen options) files old new status text = (status ≡ 0) × WritesKey options old new text
IsReply (requests.public path) files old new status text = (status ≡ 0) × WritesPublic path files text
IsReply (requests.check path) files old new status text = ChecksKey path files status text
IsReply (requests.upgrade path) files old new status text = (status ≡ 0) × UpgradesKey path files text
IsReply (requests.sign options) files old new status text = (status ≡ 0) × SignsMessage options files text
IsReply (requests.verify options) files old new status text = VerifiesMessage options files status text
IsReply (requests.vectors path workers) files old new status text = RunsVectors path files status text

-- a command's refusal, which has its cause, by the states of the files and of the input before and after
abbrev pub IsRefusal : Asked → FilesState → FilesState → SourceState → SourceState → Fault → Type 0
IsRefusal (requests.params name) before after old new fault = RefusesSets name fault
IsRefusal (requests.root name) before after old new fault = RefusesSeedsOf name old new fault
IsRefusal (requests.keygen options) before after old new fault = RefusesKeygen options old new fault
IsRefusal (requests.public path) before after old new fault = RefusesKey Secret before after path fault
IsRefusal (requests.check path) before after old new fault = RefusesKey Secret before after path fault
IsRefusal (requests.upgrade path) before after old new fault = RefusesAnyKey before after path fault
IsRefusal (requests.sign options) before after old new fault = RefusesSign options before after fault
IsRefusal (requests.verify options) before after old new fault = RefusesVerify options before after fault
IsRefusal (requests.vectors path workers) before after old new fault = RefusesVectors path before after fault

-- the most bytes of the input that a command takes
abbrev pub limit_of_set : Option ParamSet → ℕ
limit_of_set (Some set) = seeds_limit set
limit_of_set None = 0

abbrev pub input_limit : Option Asked → ℕ
input_limit (Some (requests.root name)) = limit_of_set (set_of_label name)
input_limit (Some (requests.keygen options)) = limit_of_set (set_of_label options.set)
input_limit other = 0

-- none if `clap` refuses the arguments or shows help or the version, else as many as the command takes
abbrev pub limit_where : Kinds → Option Asked → ℕ
limit_where [] a = input_limit a
limit_where (kind ∷ kinds) a = 0

-- the most bytes of the input that a run with these arguments takes
abbrev pub words_limit : List Text → ℕ
words_limit words = limit_where (fault_of slh_app words) (asked_by (subcommand_of slh_app words))
