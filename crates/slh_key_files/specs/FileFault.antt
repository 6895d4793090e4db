-- The numbers and names of the refusals.
use Rattle.std.specs.Prelude.{ℕ, List, codes}
use Rattle.slh_key_files.specs.declared.fault.FileFault.{FileFault}
use Rattle.slh_key_files.specs.declared.fault.FileFault.TheVariants.{NoMemory, NotAKeyFile, UnknownSet, BadHex, BadKeyLength, TrailingBytes}

abbrev pub fault_number : FileFault → ℕ
fault_number NoMemory = 1
fault_number NotAKeyFile = 11
fault_number UnknownSet = 12
fault_number BadHex = 13
fault_number BadKeyLength = 14
fault_number TrailingBytes = 15

abbrev pub fault_name : FileFault → List ℕ
fault_name NoMemory = codes "NoMemory"
fault_name NotAKeyFile = codes "NotAKeyFile"
fault_name UnknownSet = codes "UnknownSet"
fault_name BadHex = codes "BadHex"
fault_name BadKeyLength = codes "BadKeyLength"
fault_name TrailingBytes = codes "TrailingBytes"
