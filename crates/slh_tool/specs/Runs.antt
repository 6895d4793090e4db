-- The effects of a run of the program.
use Rattle.std.specs.Prelude.{◌≡◌, ◌⊎◌, ⊤, ℕ, List}
use Rattle.std.specs.Io.KnownBytes.{Appends}
use Rattle.clap.specs.Words.{Text}
use Rattle.slh_io.specs.Devices.{FilesState, Grew, LetsThrough, SinkState, SourceState}
use Rattle.slh_tool.specs.Reading.{AdmitsFailure}
use Rattle.slh_tool.specs.Replies.{IsRefusal, IsReply, version_line}
use Rattle.slh_tool.specs.Requests.{AreBad, AskHelp, AskVersion, Asked, Asks}
use Rattle.slh_tool.specs.declared.fault.Fault.{Fault}
use Rattle.slh_tool.specs.declared.fault.Fault.TheVariants.{BadWords, NoMemory}

-- the status and the output that the arguments, the files and the input give, or the help or the version that the
-- arguments ask for
abbrev pub Replies : List Text → FilesState → SourceState → SourceState → ℕ → Text → Type 0
Replies words files old new status text = ((a : Asked) × Asks words a × IsReply a files old new status text)
    ⊎ (((status ≡ 0) × AskHelp words) ⊎ ((status ≡ 0) × AskVersion words × (text ≡ version_line)))

-- a refusal of the arguments
abbrev pub RefusesWords : List Text → Fault → Type 0
RefusesWords words BadWords = AreBad words
RefusesWords words NoMemory = ⊤
RefusesWords words fault = ⊥

-- the refusal that the arguments, the files and the input give
abbrev pub Refuses : List Text → FilesState → FilesState → SourceState → SourceState → Fault → Type 0
Refuses words before after old new fault = ((a : Asked) × Asks words a × IsRefusal a before after old new fault) ⊎ RefusesWords words fault

-- No read failed, and the files are as they were. Or a read failed and the refusal may say so, of a file or of the input.
abbrev pub FailsOnlyAsRefused : FilesState → FilesState → SourceState → SourceState → Fault → Type 0
FailsOnlyAsRefused before after old new fault = ((after ≡ before) × (new.failures ≡ old.failures))
    ⊎ (AdmitsFailure fault × ((after ≡ before) ⊎ (new.failures ≡ old.failures)))

-- a sink got a text, or the prefix of it that was written before a write failed
abbrev pub IsTold : SinkState → SinkState → Text → Type 0
IsTold old new text = (Appends old.contents new.contents text × (new.failures ≡ old.failures))
    ⊎ (LetsThrough old.contents new.contents text × Grew old.failures new.failures)

-- a write of an answer failed, after a prefix of its text was written
abbrev pub BreaksOff : SinkState → SinkState → (ℕ → Text → Type 0) → Type 0
BreaksOff old new IsAnswer =
    Grew old.failures new.failures
    × ((status : ℕ) × ((text : Text) × IsAnswer status text × LetsThrough old.contents new.contents text))
