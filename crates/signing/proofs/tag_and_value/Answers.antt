-- `tag_and_value` meets its contract: the tag is stored at the front, and the value behind it. Assumes nothing.
use native.Mathlib.Omega.{arith}
use mathlib.Core.Path.{◌≡◌, ◌∙◌}
use Rattle.words.specs.Words.{bytes_of}
use Rattle.words.specs.Table.{table, field}
use Rattle.words.proofs.Fields.{field_part}
use Rattle.signing.proofs.tag_and_value.Goals as goal

pub returns : goal.returns
unfolding table
returns c =
    let a = c.args in
    let tag : c.copy_from_slice.new.self ≡ field 4 12 a.frame = c.copy_from_slice.ensures.after ∙ field_part 4 12 a.frame (omega arith) in
    let value : c.copy_from_slice-2.new.self ≡ bytes_of a.value = c.copy_from_slice-2.ensures.after ∙ c.bytes.ensures in
    rw (value, tag)
