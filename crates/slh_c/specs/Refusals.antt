-- The refusals of the calls (ours): their numbers and names in the one table of docs/FORMATS.md.
use Rattle.std.specs.Prelude.{ℕ, ◌==◌, List, [], ◌∷◌, Option, codes}
use Rattle.std.specs.List.{find}
use Rattle.slh_c.specs.declared.refusal.Refusal.{Refusal}
use Rattle.slh_c.specs.declared.refusal.Refusal.TheVariants.{ContextTooLong, BadLength, BadCutting, NoSuchSet, NoSuchFunction, BadSeedLength, NotAKeyFile, UnknownSet, BadHex, BadKeyLength, TrailingBytes, BadDigestLength, BadRandomizerLength, BadOutputLength, NoSuchRefusal, BadAnswersLength, AnswersDisagree, NoSuchJob, BadStartLength, BadStart, Fault, SelfTestFailed, NoSuchKind}

abbrev pub number : Refusal → ℕ
number ContextTooLong = 2
number BadLength = 3
number BadCutting = 4
number NoSuchSet = 8
number NoSuchFunction = 9
number BadSeedLength = 10
number NotAKeyFile = 11
number UnknownSet = 12
number BadHex = 13
number BadKeyLength = 14
number TrailingBytes = 15
number BadDigestLength = 16
number BadRandomizerLength = 17
number BadOutputLength = 18
number NoSuchRefusal = 19
number BadAnswersLength = 20
number AnswersDisagree = 25
number NoSuchJob = 26
number BadStartLength = 27
number BadStart = 28
number Fault = 38
number SelfTestFailed = 40
number NoSuchKind = 41

abbrev pub name : Refusal → List ℕ
name ContextTooLong = codes "ContextTooLong"
name BadLength = codes "BadLength"
name BadCutting = codes "BadCutting"
name NoSuchSet = codes "NoSuchSet"
name NoSuchFunction = codes "NoSuchFunction"
name BadSeedLength = codes "BadSeedLength"
name NotAKeyFile = codes "NotAKeyFile"
name UnknownSet = codes "UnknownSet"
name BadHex = codes "BadHex"
name BadKeyLength = codes "BadKeyLength"
name TrailingBytes = codes "TrailingBytes"
name BadDigestLength = codes "BadDigestLength"
name BadRandomizerLength = codes "BadRandomizerLength"
name BadOutputLength = codes "BadOutputLength"
name NoSuchRefusal = codes "NoSuchRefusal"
name BadAnswersLength = codes "BadAnswersLength"
name AnswersDisagree = codes "AnswersDisagree"
name NoSuchJob = codes "NoSuchJob"
name BadStartLength = codes "BadStartLength"
name BadStart = codes "BadStart"
name Fault = codes "Fault"
name SelfTestFailed = codes "SelfTestFailed"
name NoSuchKind = codes "NoSuchKind"

-- the refusals, in the order of their numbers
abbrev pub refusals : List Refusal
refusals = ContextTooLong ∷ BadLength ∷ BadCutting ∷ NoSuchSet ∷ NoSuchFunction ∷ BadSeedLength ∷ NotAKeyFile ∷ UnknownSet ∷ BadHex ∷ BadKeyLength ∷ TrailingBytes ∷ BadDigestLength ∷ BadRandomizerLength ∷ BadOutputLength ∷ NoSuchRefusal ∷ BadAnswersLength ∷ AnswersDisagree ∷ NoSuchJob ∷ BadStartLength ∷ BadStart ∷ Fault ∷ SelfTestFailed ∷ NoSuchKind ∷ []

-- the refusal of a number
unfoldable pub refusal_numbered : ℕ → Option Refusal
refusal_numbered asked = find (λ refusal. number refusal == asked) refusals
