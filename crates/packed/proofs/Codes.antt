-- A flag's number, which `u8::from` gives, is its byte. Assumes nothing.
use mir.Val.{bool_byte}
use mathlib.Core.Path.{◌≡◌, refl}
use mathlib.Core.Bool.{Bool, true, false}
use Rattle.words.specs.Choice.{pick}
use Rattle.packed.specs.Codes.{flag_byte}

pub from_flag : (flag : Bool) → bool_byte flag ≡ flag_byte flag
unfolding pick
from_flag true = refl
from_flag false = refl
