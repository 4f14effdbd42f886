-- Document 01's own session of `rpmcrun`, computed: its eight lines print exactly its nine. Assumes nothing.
use Prim.Native.Nat.{ℕ}
use mathlib.Core.Path.{◌≡◌, refl}
use mathlib.Core.List.{List, [], ◌∷◌, ◌++◌}
use Rattle.words.specs.Choice.{pick}
use Rattle.words.specs.Table.{table, spread}
use Rattle.hexadecimal.specs.Hex.{all_digits, bytes_in, readable}
use Rattle.hexadecimal.specs.Hex as Hex
use Rattle.words.specs.Rows.{first_of, any_of}
use Rattle.image.specs.Refusal.{is_size, refusal}
use Rattle.frames.specs.Classes.{named_class, class_of}
use Rattle.frames.specs.Reading.{read_byte, read_output}
use Rattle.checks.specs.Checks.{arrival_status}
use Rattle.jobs.specs.Jobs.{longest_of, longest}
use Rattle.state.specs.Parts.{power_on}
use Rattle.state.specs.Refusal.{is_running, job_refusal, device_refusal}
use Rattle.arrival.specs.Arrival.{taken, arrived}
use Rattle.rules.specs.Whole.{status_on_arrival}
use Rattle.device.specs.Frame.{with_enabled}
use Rattle.device.specs.Work.{run, within, steps_left}
use Rattle.device.specs.Calls.{device, powered_up, after_frame, output_after_frame, after_steps, after_work, image_after_work}
use Rattle.text.specs.Numbers.{value_of, with_digit, number_with, number_in}
use Rattle.image.specs.Header.{count}
use Rattle.text.specs.Printing.{decimal, count_line, number_line, work_line, read_line}
use Rattle.lines.specs.Start.{first_image}
use Rattle.lines.specs.Turn.{powered, framed, worked, shown, read, opens, alone, turn}
use Rattle.lines.specs.Feeding.{answers}

-- P, R 2, F 9B07, S 3, R 1, F 66, F 99, R 1
pub lines : List (List ℕ)
lines =
    (80 ∷ []) ∷ (82 ∷ 32 ∷ 50 ∷ []) ∷ (70 ∷ 32 ∷ 57 ∷ 66 ∷ 48 ∷ 55 ∷ []) ∷ (83 ∷ 32 ∷ 51 ∷ []) ∷ (82 ∷ 32 ∷ 49 ∷ []) ∷
    (70 ∷ 32 ∷ 54 ∷ 54 ∷ []) ∷ (70 ∷ 32 ∷ 57 ∷ 57 ∷ []) ∷ (82 ∷ 32 ∷ 49 ∷ []) ∷ []

-- counters 4, P 0, R 0 00FF, F 0, S 0 0, R 0 04, F 0, F 0, R 0 00
pub session :
    count_line (count first_image) ++ answers (device first_image power_on) lines ≡
    99 ∷ 111 ∷ 117 ∷ 110 ∷ 116 ∷ 101 ∷ 114 ∷ 115 ∷ 32 ∷ 52 ∷ 10 ∷ 80 ∷ 32 ∷ 48 ∷ 10 ∷ 82 ∷ 32 ∷ 48 ∷ 32 ∷ 48 ∷ 48 ∷ 70 ∷ 70 ∷ 10 ∷
    70 ∷ 32 ∷ 48 ∷ 10 ∷ 83 ∷ 32 ∷ 48 ∷ 32 ∷ 48 ∷ 10 ∷ 82 ∷ 32 ∷ 48 ∷ 32 ∷ 48 ∷ 52 ∷ 10 ∷ 70 ∷ 32 ∷ 48 ∷ 10 ∷ 70 ∷ 32 ∷ 48 ∷ 10 ∷
    82 ∷ 32 ∷ 48 ∷ 32 ∷ 48 ∷ 48 ∷ 10 ∷ []
unfolding answers lines pick table spread all_digits bytes_in readable Hex.value_of first_of any_of is_size refusal named_class class_of read_byte read_output arrival_status longest_of longest is_running job_refusal device_refusal status_on_arrival taken arrived with_enabled run within steps_left powered_up after_frame output_after_frame after_steps after_work image_after_work value_of with_digit number_with number_in decimal number_line work_line read_line first_image count_line powered framed worked shown read opens alone turn
session = refl
