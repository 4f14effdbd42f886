-- Document 01, "Steps": an order of calls. Each call is handed the state and the image that the one before it left. Assumes nothing.
use Rattle.std.specs.Prelude.{List, [], ◌∷◌}
use Rattle.device.specs.Work.{Device}
use Rattle.device.specs.Calls.{After, Call, after, called}

-- the device after an order of calls
unfoldable pub all_called : List Call → Device → Device
all_called [] d = d
all_called (call ∷ more) d = all_called more (called call d)

-- what each call leaves, in order
unfoldable pub all_left : List Call → Device → List After
all_left [] d = []
all_left (call ∷ more) d = after call d ∷ all_left more (called call d)

-- the device that the last of them left, or the first one where there is none
unfoldable pub last_left : List After → Device → Device
last_left [] d = d
last_left (left ∷ lefts) d = last_left lefts left.device
