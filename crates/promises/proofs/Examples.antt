-- Document 01, "Examples at the edges": the table of the cases marked P holds. Assumes nothing.
use Prim.Native.Nat.{ℕ}
use mathlib.Core.List.{List}
use Rattle.device.specs.Work.{Device}
use Rattle.orders.specs.Orders.{all_called}
use Rattle.promises.specs.Examples.{Example, P1, P2, P3, P4, P5, P6, P7, P8, P9-before-the-end, P9-at-the-end, P10-cut-before-the-end, P10-cut-before-the-counter, P11-before-the-end, P11-at-the-end, P12-before-the-end, P12-at-the-end, P13, P14-while-idle, P14-while-busy, Ready, Given, script, Seen}
use Rattle.promises.proofs.ExamplesArrival.{alone, short, unknown_type, root_key_beyond, session_key_beyond, session_key-unset, request_without_key, root_key-set, bad_slot, no_reset}
use Rattle.promises.proofs.ExamplesJobs.{busy_before_the_end, done_at_the_end, temporary_key_before_the_end, temporary_key, full_counter_before_the_end, full_counter}
use Rattle.promises.proofs.ExamplesCuts.{cut_before_the_end, cut_before_the_counter}

-- A ready device that is given what a row says, and called as it says, shows what it says.
pub cases_marked_P : (p : Example) (d : Device) (frame output : List ℕ) → Ready d → Given p d frame → Seen p d frame (all_called (script p frame output) d)
cases_marked_P P1 d frame output ready = alone d ready frame output
cases_marked_P P2 d frame output ready = short d ready frame output
cases_marked_P P3 d frame output ready = unknown_type d ready frame output
cases_marked_P P4 d frame output ready = root_key_beyond d ready frame output
cases_marked_P P5 d frame output ready = session_key_beyond d ready frame output
cases_marked_P P6 d frame output ready = session_key-unset d ready frame output
cases_marked_P P7 d frame output ready = request_without_key d ready frame output
cases_marked_P P8 d frame output ready = root_key-set d ready frame output
cases_marked_P P9-before-the-end d frame output ready = busy_before_the_end d ready frame output
cases_marked_P P9-at-the-end d frame output ready = done_at_the_end d ready frame output
cases_marked_P P10-cut-before-the-end d frame output ready = cut_before_the_end d ready frame output
cases_marked_P P10-cut-before-the-counter d frame output ready = cut_before_the_counter d ready frame output
cases_marked_P P11-before-the-end d frame output ready = temporary_key_before_the_end d ready frame output
cases_marked_P P11-at-the-end d frame output ready = temporary_key d ready frame output
cases_marked_P P12-before-the-end d frame output ready = full_counter_before_the_end d ready frame output
cases_marked_P P12-at-the-end d frame output ready = full_counter d ready frame output
cases_marked_P P13 d frame output ready = bad_slot d ready frame output
cases_marked_P P14-while-idle d frame output ready = λ _. no_reset d ready frame output
cases_marked_P P14-while-busy d frame output ready = λ _. no_reset d ready frame output
