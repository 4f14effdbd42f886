-- The last device that an order of calls leaves is the device after it. Assumes nothing.
use mathlib.Core.Path.{◌≡◌, refl}
use mathlib.Core.List.{List, [], ◌∷◌}
use Rattle.device.specs.Work.{Device}
use Rattle.device.specs.Calls.{Call, called}
use Rattle.orders.specs.Orders.{all_called, all_left, last_left}

pub last-called : (calls : List Call) (d : Device) → last_left (all_left calls d) d ≡ all_called calls d
unfolding all_called all_left last_left
last-called [] d = refl
last-called (call ∷ more) d = last-called more (called call d)
