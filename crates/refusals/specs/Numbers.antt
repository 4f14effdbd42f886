-- Document 01, "Refusal numbers": the number of each refusal, and that of an outcome. Assumes nothing.
use Rattle.std.specs.Prelude.{ℕ, Result, Ok, Err}
use Rattle.refusals.specs.declared.Refusal.{Refusal}
use Rattle.refusals.specs.declared.Refusal.TheVariants.{
  ImageLength,
  CounterCount,
  Layout,
  Job,
  CounterNumber,
  InputLength,
  OutputLength,
  ReplyLength,
  MessageLength,
}

-- 1: the image's length; 2: its count; 3: its layout; 4: the state's job; 5: host build, the counter number; 6: the length of a key, a
-- tag or other data; 7: host build, the length of the output; 8: host read, the length of the reply; 11: the length of the message
abbrev pub number : Refusal → ℕ
number ImageLength = 1
number CounterCount = 2
number Layout = 3
number Job = 4
number CounterNumber = 5
number InputLength = 6
number OutputLength = 7
number ReplyLength = 8
number MessageLength = 11

-- 0 means done
abbrev pub number_of : {A : Type 0} → Result A Refusal → ℕ
number_of (Ok a) = 0
number_of (Err refusal) = number refusal
