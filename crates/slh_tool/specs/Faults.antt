-- The refusals of the program.
use Rattle.std.specs.Prelude.{ℕ, List, [], ◌++◌, codes}
use Rattle.std.specs.Fmt.{decimal}
use Rattle.slh_key_files.specs.declared.fault.FileFault.{FileFault}
use Rattle.slh_key_files.specs.declared.fault.FileFault.TheVariants as file
use Rattle.slh_vectors.specs.Reading.{member_name}
use Rattle.slh_vectors.specs.declared.fault.Member.{Member}
use Rattle.slh_vectors.specs.declared.fault.VectorFault.{VectorFault}
use Rattle.slh_vectors.specs.declared.fault.VectorFault.TheVariants as vectors
use Rattle.slh_tool.specs.declared.fault.Fault.{Fault}
use Rattle.slh_tool.specs.declared.fault.Fault.TheVariants.{BadCutting, BadHex, BadKeyLength, BadOption, BadSeeds, BadWords, Bad, ContextTooLong, FileTooLong, Missing}
use Rattle.slh_tool.specs.declared.fault.Fault.TheVariants.{NoMemory, NotAList, NotJson, NotAKeyFile, ReadFailed, RunsDiffer, TrailingBytes, UnknownSet, WriteFailed}

abbrev pub number : Fault → ℕ
number NoMemory = 1
number ContextTooLong = 2
number BadCutting = 4
number NotAKeyFile = 11
number UnknownSet = 12
number BadHex = 13
number BadKeyLength = 14
number TrailingBytes = 15
number NotJson = 21
number NotAList = 22
number (Missing test member) = 23
number (Bad test member) = 24
number BadWords = 31
number ReadFailed = 32
number WriteFailed = 33
number BadSeeds = 34
number BadOption = 35
number FileTooLong = 36
number RunsDiffer = 38

abbrev pub name : Fault → List ℕ
name NoMemory = codes "NoMemory"
name ContextTooLong = codes "ContextTooLong"
name BadCutting = codes "BadCutting"
name NotAKeyFile = codes "NotAKeyFile"
name UnknownSet = codes "UnknownSet"
name BadHex = codes "BadHex"
name BadKeyLength = codes "BadKeyLength"
name TrailingBytes = codes "TrailingBytes"
name NotJson = codes "NotJson"
name NotAList = codes "NotAList"
name (Missing test member) = codes "Missing"
name (Bad test member) = codes "Bad"
name BadWords = codes "BadWords"
name ReadFailed = codes "ReadFailed"
name WriteFailed = codes "WriteFailed"
name BadSeeds = codes "BadSeeds"
name BadOption = codes "BadOption"
name FileTooLong = codes "FileTooLong"
name RunsDiffer = codes "Fault"

-- the refusal of a key file
abbrev pub of_file : FileFault → Fault
of_file file.NoMemory = NoMemory
of_file file.NotAKeyFile = NotAKeyFile
of_file file.UnknownSet = UnknownSet
of_file file.BadHex = BadHex
of_file file.BadKeyLength = BadKeyLength
of_file file.TrailingBytes = TrailingBytes

-- the refusal of a vector file
abbrev pub of_vectors : VectorFault → Fault
of_vectors vectors.NoMemory = NoMemory
of_vectors vectors.NotJson = NotJson
of_vectors vectors.NotAList = NotAList
of_vectors (vectors.Missing test member) = Missing test member
of_vectors (vectors.Bad test member) = Bad test member

-- the program's name, the number and the name
unfoldable pub head : Fault → List ℕ
head fault = codes "slh: " ++ decimal (number fault) ++ codes " " ++ name fault

-- the test of a vector file, counted from 1, and its member
abbrev pub place_text : ℕ → Member → List ℕ
place_text test member = (codes " test " ++ decimal test ++ codes " member ") ++ member_name member

-- the place of a fault in a vector file
abbrev pub place : Fault → List ℕ
place (Missing test member) = place_text test member
place (Bad test member) = place_text test member
place fault = []

-- the text on standard error, as `slh: NUMBER NAME` and a line feed, with ` test T member M` before the line feed if a
-- test of a vector file is at fault
abbrev pub line : Fault → List ℕ
line fault = head fault ++ place fault ++ codes "\n"
