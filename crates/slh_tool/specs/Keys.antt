-- Keys from key files and from seeds.
use Rattle.std.specs.Prelude.{◌≡◌, ◌⊎◌, ⊤, ℕ, List, take, drop, Some, None, Ok, Err}
use Rattle.clap.specs.Words.{Text}
use Rattle.slh_core.specs.Keys.{Key, generated_key}
use Rattle.slh_io.specs.Devices.{FilesState, SourceState}
use Rattle.slh_key_files.specs.KeyFile.{any_key_file, key_file}
use Rattle.slh_key_files.specs.declared.fault.FileFault.{FileFault}
use Rattle.slh_key_files.specs.declared.key_file.AnyKey.{AnyKey}
use Rattle.slh_key_files.specs.declared.key_kind.KeyKind.{KeyKind}
use Rattle.slh_params.specs.Label.{set_of_label}
use Rattle.slh_params.specs.ParamSet.{params}
use Rattle.slh_params.specs.declared.param_set.ParamSet.{ParamSet}
use Rattle.slh_tool.specs.Faults.{of_file}
use Rattle.slh_tool.specs.Reading.{IsFile, RefusesFile}
use Rattle.slh_tool.specs.Seeds.{AreSeeds, RefusesSeeds}
use Rattle.slh_tool.specs.declared.fault.Fault.{Fault}
use Rattle.slh_tool.specs.declared.fault.Fault.TheVariants.{NoMemory, UnknownSet}

-- the file at this path is a key file of this kind, and has this key
abbrev pub HoldsKey : KeyKind → FilesState → Text → Key → Type 0
HoldsKey kind files path key = (bytes : Text) × IsFile files path bytes × (key_file kind bytes ≡ Ok key)

-- why no key was read: the file is not read, or it is not such a key file
abbrev pub RefusesKey : KeyKind → FilesState → FilesState → Text → Fault → Type 0
RefusesKey kind old new path fault = RefusesFile old new path fault
    ⊎ ((bytes : Text) × IsFile old path bytes × ((e : FileFault) × (key_file kind bytes ≡ Err e) × (fault ≡ of_file e)))

-- the same for a key of either kind
abbrev pub HoldsAnyKey : FilesState → Text → AnyKey → Type 0
HoldsAnyKey files path key = (bytes : Text) × IsFile files path bytes × (any_key_file bytes ≡ Ok key)

abbrev pub RefusesAnyKey : FilesState → FilesState → Text → Fault → Type 0
RefusesAnyKey old new path fault = RefusesFile old new path fault
    ⊎ ((bytes : Text) × IsFile old path bytes × ((e : FileFault) × (any_key_file bytes ≡ Err e) × (fault ≡ of_file e)))

-- the secret key of the seeds SK.seed, SK.prf and PK.seed, put end to end (FIPS 205, Algorithm 18)
abbrev pub key_of_seeds : ParamSet → List ℕ → Key
key_of_seeds set seeds =
    let n = (params set).n in generated_key set (take n seeds) (take n (drop n seeds)) (drop n (drop n seeds))

-- the secret key of the set of this label and of the seeds on the input
pub record IsGeneratedFrom (name : Text) (old new : SourceState) (key : Key) : Type 0 where
  pub set : set_of_label name ≡ Some key.set
  pub seeds : List ℕ
  pub read : AreSeeds key.set old new seeds
  pub generated : key ≡ key_of_seeds key.set seeds

-- why no key was generated: memory, or no set has the label, or the input has no seeds
abbrev pub RefusesSeedsOf : Text → SourceState → SourceState → Fault → Type 0
RefusesSeedsOf name old new NoMemory = ⊤
RefusesSeedsOf name old new UnknownSet = set_of_label name ≡ None
RefusesSeedsOf name old new fault = (set : ParamSet) × (set_of_label name ≡ Some set) × RefusesSeeds set old new fault
