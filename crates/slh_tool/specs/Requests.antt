-- The command that the arguments ask for.
use Rattle.std.specs.Prelude.{◌≡◌, ◌≢◌, ⊤, ℕ, Bool, false, List, [], Option, Some, None, if◌then◌else◌, option_map, codes}
use Rattle.std.specs.Option.{option_and_then, option_map_or}
use Rattle.std.specs.Str.{bytes_eq}
use Rattle.clap.specs.Kinds.{IsAmong}
use Rattle.clap.specs.Walk.{byte_or_zero}
use Rattle.clap.specs.Words.{Row, Text, fault_of, first_of, one_of, subcommand_of}
use Rattle.clap.specs.declared.error.ErrorKind.{ErrorKind}
use Rattle.clap.specs.declared.error.ErrorKind.TheVariants.{DisplayHelp, DisplayVersion}
use Rattle.slh_tool.specs.Arguments.{slh_app}
use Rattle.slh_tool.specs.declared.request.CutWords.{CutWords}
use Rattle.slh_tool.specs.declared.request.FormWords.{FormWords}
use Rattle.slh_tool.specs.declared.request.KeygenWords.{KeygenWords}
use Rattle.slh_tool.specs.declared.request.SignWords.{SignWords}
use Rattle.slh_tool.specs.declared.request.VerifyWords.{VerifyWords}
use Rattle.slh_tool.specs.declared.request.WorkWords.{WorkWords}
use Rattle.slh_tool.specs.declared.request.Request.{Request}
use Rattle.slh_tool.specs.declared.request.Request.TheVariants as request
use Rattle.slh_tool.specs.declared.request.Refusal.{Refusal}
use Rattle.slh_tool.specs.declared.request.Refusal.TheVariants as refusal

-- the options on the form in which a message is signed
pub record FormOptions : Type 0 where
  pub context : Option Text
  pub prehash : Option Text

-- the options on how the trees of one kind are cut: the levels, and the list of cut points if the option is given
pub record CutOptions : Type 0 where
  pub levels : ℕ
  pub points : Option Text

-- the options on how the work is shared among workers
pub record WorkOptions : Type 0 where
  pub workers : ℕ
  pub xmss : CutOptions
  pub fors : CutOptions

pub record KeygenOptions : Type 0 where
  pub set : Text
  pub work : WorkOptions

pub record SignOptions : Type 0 where
  pub key : Text
  pub message : Text
  pub form : FormOptions
  pub random : Option Text
  pub twice : Bool
  pub work : WorkOptions

pub record VerifyOptions : Type 0 where
  pub key : Text
  pub message : Text
  pub signature : Text
  pub form : FormOptions

-- a command with the values of its options
pub data Asked : Type 0 where
  params : Option Text → Asked
  root : Text → Asked
  keygen : KeygenOptions → Asked
  public : Text → Asked
  check : Text → Asked
  upgrade : Text → Asked
  sign : SignOptions → Asked
  verify : VerifyOptions → Asked
  vectors : Text → ℕ → Asked

abbrev pub form_asked : FormWords → FormOptions
form_asked words = record { context = option_map (λ s. s.now) words.context; prehash = option_map (λ s. s.now) words.prehash }

abbrev pub cut_asked : CutWords → CutOptions
cut_asked words = record { levels = words.levels; points = option_map (λ s. s.now) words.points }

abbrev pub work_asked : WorkWords → WorkOptions
work_asked words = record { workers = words.workers; xmss = cut_asked words.xmss; fors = cut_asked words.fors }

abbrev pub keygen_asked : KeygenWords → KeygenOptions
keygen_asked words = record { set = words.set.now; work = work_asked words.work }

abbrev pub sign_asked : SignWords → SignOptions
sign_asked words = record { key = words.key.now; message = words.message.now; form = form_asked words.form; random = option_map (λ s. s.now) words.random; twice = words.twice; work = work_asked words.work }

abbrev pub verify_asked : VerifyWords → VerifyOptions
verify_asked words = record { key = words.key.now; message = words.message.now; signature = words.signature.now; form = form_asked words.form }

abbrev pub asked : Request → Asked
asked (request.Params name) = params (option_map (λ s. s.now) name)
asked (request.Root name) = root name.now
asked (request.Keygen words) = keygen (keygen_asked words)
asked (request.Public path) = public path.now
asked (request.Check path) = check path.now
asked (request.Upgrade path) = upgrade path.now
asked (request.Sign words) = sign (sign_asked words)
asked (request.Verify words) = verify (verify_asked words)
asked (request.Vectors path workers) = vectors path.now workers

-- the requests of subcommands, by the rows of their values
abbrev pub form_in : List Row → FormOptions
form_in rows = record { context = first_of (codes "context") rows; prehash = first_of (codes "prehash") rows }

-- the number that an option has, as the arguments or its default give it
abbrev pub number_of : Text → List Row → ℕ
number_of name rows = option_map_or byte_or_zero (one_of name rows) 0

-- whether a flag is given
abbrev pub flag_of : Text → List Row → Bool
flag_of name rows = option_map_or (λ text. bytes_eq text (codes "true")) (one_of name rows) false

abbrev pub cut_in : Text → Text → List Row → CutOptions
cut_in levels points rows = record { levels = number_of levels rows; points = first_of points rows }

abbrev pub work_in : List Row → WorkOptions
work_in rows = record {
  workers = number_of (codes "workers") rows;
  xmss = cut_in (codes "xmss-levels") (codes "xmss-cuts") rows;
  fors = cut_in (codes "fors-levels") (codes "fors-cuts") rows;
}

abbrev pub keygen_in : List Row → Option Asked
keygen_in rows = option_map (λ set. keygen (record { set = set; work = work_in rows })) (first_of (codes "set") rows)

abbrev pub sign_in : List Row → Option Asked
sign_in rows = option_and_then (λ key. option_map (λ message. sign (record {
  key = key;
  message = message;
  form = form_in rows;
  random = first_of (codes "random") rows;
  twice = flag_of (codes "twice") rows;
  work = work_in rows;
})) (first_of (codes "message") rows)) (first_of (codes "key") rows)

abbrev pub verify_in : List Row → Option Asked
verify_in rows = option_and_then (λ key. option_and_then (λ message. option_map (λ signature. verify (record { key = key; message = message; signature = signature; form = form_in rows }))
    (first_of (codes "signature") rows)) (first_of (codes "message") rows)) (first_of (codes "key") rows)

abbrev pub vectors_in : List Row → Option Asked
vectors_in rows = option_map (λ file. vectors file (number_of (codes "workers") rows)) (first_of (codes "file") rows)

-- the commands on a file
abbrev pub asked_of_file : Text → List Row → Option Asked
asked_of_file name rows =
    if bytes_eq name (codes "public") then option_map public (first_of (codes "key") rows)
    else (if bytes_eq name (codes "check") then option_map check (first_of (codes "key") rows)
    else (if bytes_eq name (codes "sign") then sign_in rows
    else (if bytes_eq name (codes "verify") then verify_in rows
    else (if bytes_eq name (codes "upgrade") then option_map upgrade (first_of (codes "key") rows)
    else (if bytes_eq name (codes "vectors") then vectors_in rows
    else None)))))

-- a subcommand, by its name and the rows of its values
abbrev pub asked_in : Text → List Row → Option Asked
asked_in name rows =
    if bytes_eq name (codes "params") then Some (params (first_of (codes "set") rows))
    else (if bytes_eq name (codes "root") then option_map root (first_of (codes "set") rows)
    else (if bytes_eq name (codes "keygen") then keygen_in rows
    else asked_of_file name rows))

abbrev pub asked_by : Option (Text × List Row) → Option Asked
asked_by None = Some (params None)
asked_by (Some p) = asked_in p.0 p.1

-- `clap` takes the arguments, and they ask for this
abbrev pub Asks : List Text → Asked → Type 0
Asks words a = (fault_of slh_app words ≡ []) × (asked_by (subcommand_of slh_app words) ≡ Some a)

-- `clap` refuses the arguments for another cause than a request for help or for the version
abbrev pub AreBad : List Text → Type 0
AreBad words = (k : ErrorKind) × IsAmong k (fault_of slh_app words) × (k ≢ DisplayHelp) × (k ≢ DisplayVersion)

-- the arguments ask for help
abbrev pub AskHelp : List Text → Type 0
AskHelp words = IsAmong DisplayHelp (fault_of slh_app words)

-- the arguments ask for the version
abbrev pub AskVersion : List Text → Type 0
AskVersion words = IsAmong DisplayVersion (fault_of slh_app words)

-- why no request was read from the arguments
abbrev pub RefusesRequest : List Text → Refusal → Type 0
RefusesRequest words (refusal.Help e) = AskHelp words
RefusesRequest words refusal.Version = AskVersion words
RefusesRequest words refusal.BadWords = AreBad words
RefusesRequest words refusal.NoMemory = ⊤
