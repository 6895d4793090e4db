-- The head of each fault's line: its number in digits, and its name.
use Rattle.std.proofs.Common.{refl, arith}
use Rattle.slh_tool.specs.Faults.{head}
use Rattle.slh_tool.proofs.Digits.{one_digit, two_digits}
use Rattle.slh_tool.proofs.fault.Fault.head.Goals as goal

pub returns-in-NoMemory : goal.returns-in-NoMemory
unfolding head
returns-in-NoMemory c = rw (c.in-NoMemory.is, one_digit 1 (omega arith)) refl

pub returns-in-ContextTooLong : goal.returns-in-ContextTooLong
unfolding head
returns-in-ContextTooLong c = rw (c.in-ContextTooLong.is, one_digit 2 (omega arith)) refl

pub returns-in-BadCutting : goal.returns-in-BadCutting
unfolding head
returns-in-BadCutting c = rw (c.in-BadCutting.is, one_digit 4 (omega arith)) refl

pub returns-in-NotAKeyFile : goal.returns-in-NotAKeyFile
unfolding head
returns-in-NotAKeyFile c = rw (c.in-NotAKeyFile.is, two_digits 11 (omega arith) (omega arith)) refl

pub returns-in-UnknownSet : goal.returns-in-UnknownSet
unfolding head
returns-in-UnknownSet c = rw (c.in-UnknownSet.is, two_digits 12 (omega arith) (omega arith)) refl

pub returns-in-BadHex : goal.returns-in-BadHex
unfolding head
returns-in-BadHex c = rw (c.in-BadHex.is, two_digits 13 (omega arith) (omega arith)) refl

pub returns-in-BadKeyLength : goal.returns-in-BadKeyLength
unfolding head
returns-in-BadKeyLength c = rw (c.in-BadKeyLength.is, two_digits 14 (omega arith) (omega arith)) refl

pub returns-in-TrailingBytes : goal.returns-in-TrailingBytes
unfolding head
returns-in-TrailingBytes c = rw (c.in-TrailingBytes.is, two_digits 15 (omega arith) (omega arith)) refl

pub returns-in-BadWords : goal.returns-in-BadWords
unfolding head
returns-in-BadWords c = rw (c.in-BadWords.is, two_digits 31 (omega arith) (omega arith)) refl

pub returns-in-ReadFailed : goal.returns-in-ReadFailed
unfolding head
returns-in-ReadFailed c = rw (c.in-ReadFailed.is, two_digits 32 (omega arith) (omega arith)) refl

pub returns-in-WriteFailed : goal.returns-in-WriteFailed
unfolding head
returns-in-WriteFailed c = rw (c.in-WriteFailed.is, two_digits 33 (omega arith) (omega arith)) refl

pub returns-in-BadSeeds : goal.returns-in-BadSeeds
unfolding head
returns-in-BadSeeds c = rw (c.in-BadSeeds.is, two_digits 34 (omega arith) (omega arith)) refl

pub returns-in-BadOption : goal.returns-in-BadOption
unfolding head
returns-in-BadOption c = rw (c.in-BadOption.is, two_digits 35 (omega arith) (omega arith)) refl

pub returns-in-FileTooLong : goal.returns-in-FileTooLong
unfolding head
returns-in-FileTooLong c = rw (c.in-FileTooLong.is, two_digits 36 (omega arith) (omega arith)) refl

pub returns-in-RunsDiffer : goal.returns-in-RunsDiffer
unfolding head
returns-in-RunsDiffer c = rw (c.in-RunsDiffer.is, two_digits 38 (omega arith) (omega arith)) refl

pub returns-in-NotJson : goal.returns-in-NotJson
unfolding head
returns-in-NotJson c = rw (c.in-NotJson.is, two_digits 21 (omega arith) (omega arith)) refl

pub returns-in-NotAList : goal.returns-in-NotAList
unfolding head
returns-in-NotAList c = rw (c.in-NotAList.is, two_digits 22 (omega arith) (omega arith)) refl

pub returns-in-Missing : goal.returns-in-Missing
unfolding head
returns-in-Missing c = rw (c.in-Missing.is, two_digits 23 (omega arith) (omega arith)) refl

pub returns-in-Bad : goal.returns-in-Bad
unfolding head
returns-in-Bad c = rw (c.in-Bad.is, two_digits 24 (omega arith) (omega arith)) refl
