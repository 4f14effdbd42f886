-- Document 01, "Frames by first byte": what the read fills the output with, a rule for each byte. Assumes nothing.
use Rattle.std.specs.Prelude.{ℕ, ◌-◌, Bool, List, ltb, eqb, get_or}
use Rattle.words.specs.Choice.{pick}
use Rattle.words.specs.Table.{table}
use Rattle.frames.specs.declared.Reply.{Reply}

-- idle: status; if there is a reply, its 48 bytes (12 tag bytes, 4 counter bytes, 32 signature bytes), else FFh; past 49 bytes FFh
-- busy: every byte is 01h
unfoldable pub read_byte : Bool → ℕ → Reply → ℕ → ℕ
read_byte busy status reply i =
    pick busy 0x01
    (pick (eqb i 0) status
    (pick reply.there (pick (ltb i 49) (get_or reply.bytes (i - 1) 0) 0xFF)
    0xFF))

-- the whole output buffer is filled
unfoldable pub read_output : Bool → ℕ → Reply → ℕ → List ℕ
read_output busy status reply size = table (read_byte busy status reply) size
