-- What the program makes of what a read and a write answered: a read that fails ends it, no bytes are the end of the input, any bytes are taken.
-- A block is taken until its end, or until an answer cannot be written.
use Rattle.std.specs.Prelude.{◌≡◌, true, false, ◌⊎◌, List, [], ◌∷◌, ◌++◌, ℕ, zero, suc, ◌+◌, ◌≤◌, min, length, take, Option, None, Some, IfSome}
use Rattle.std.specs.Io.KnownBytes.{Consumes, IsAtEnd, Appends}
use Rattle.script_lines.specs.Blocks.{whole}
use Rattle.script.specs.Script.{table_in}
use Rattle.script_transcripts.specs.Whole.{Kept, Called, Through, Read, script_outcome}
use Rattle.tcam_script.specs.Checksum.{checksum_on, checksum_of}
use Rattle.tcam_script.specs.Streams.{Known, Wrote}
use Rattle.tcam_script.specs.declared.console.Got.{Got}
use Rattle.tcam_script.specs.declared.console.Sent.{Sent}
use Rattle.tcam_script.specs.declared.Went.{Went}

-- a count stays at its top: of reads, and of bytes
abbrev pub capped : ℕ → ℕ
capped n = min n 18446744073709551615

-- nothing handed to the output yet
abbrev pub unsent : Sent
unsent = record { bytes = 0; checksum = checksum_of []; well = true }

-- what was handed to the output after a point: as many bytes more, and with their checksum; and these the writer holds
pub record HandedOver (before : Sent) (held : Option (List ℕ)) (bytes : List ℕ) (sent : Sent) (held' : Option (List ℕ)) : Type 0 where
  pub count : sent.bytes ≡ capped (before.bytes + length bytes)
  pub checksum : sent.checksum ≡ checksum_on before.checksum bytes
  pub wrote : Wrote held held' bytes sent.well

-- what all reads came to: a block for each, and the checksum of their bytes; and these the reader has given
pub record Received (blocks : List (List ℕ)) (got : Got) (left left' : Option (List ℕ)) : Type 0 where
  pub reads : got.reads ≡ length blocks
  pub checksum : got.checksum ≡ checksum_of (whole blocks)
  pub taken : Consumes left left' (whole blocks)

-- Calls on a block, and their answers handed to the output: to the block's end where all were written.
pub record TookBlock (block : List ℕ) (start : Kept) (before : Sent) (held : Option (List ℕ)) (sent : Sent) (held' : Option (List ℕ)) (end : Kept) : Type 0 where
  pub through : sent.well ≡ true → (bytes : List ℕ) × HandedOver before held bytes sent held' × Through block start bytes end
  pub stopped : sent.well ≡ false → (bytes : List ℕ) × HandedOver before held bytes sent held' × (from : ℕ) × Called block start bytes end from

-- by what the read answered: a failure, after which no line is run, else so many bytes at the buffer's start
unfoldable pub TookRead : Option ℕ → List ℕ → Kept → Sent → Option (List ℕ) → Went → Option (List ℕ) → Kept → Type 0
TookRead None buffer start before held went held' end =
    (went.more ≡ false) × (went.well ≡ false) × (went.sent ≡ before) × (held' ≡ held) × (end ≡ start)
TookRead (Some zero) buffer start before held went held' end =
    (went.more ≡ false) × (went.well ≡ true) × (went.sent ≡ before) × (held' ≡ held) × (end ≡ start)
TookRead (Some (suc k)) buffer start before held went held' end =
    (went.more ≡ went.well) × (went.well ≡ went.sent.well) × TookBlock (take (suc k) buffer) start before held went.sent held' end

-- the program goes no further only after a write or a read that failed; a read was made, where there is no number
abbrev pub Failed : Went → Type 0
Failed went = (went.sent.well ≡ false) ⊎ ((went.got.number ≡ None) × (1 ≤ went.got.reads))

-- or where the last read answered no bytes, so that the reader has none left, unless 2^64 − 1 blocks were read, none of them empty
abbrev pub Stopped : List (List ℕ) → Went → Option (List ℕ) → Type 0
Stopped blocks went left' =
    ((before : List (List ℕ)) × (blocks ≡ before ++ [] ∷ []) × (went.got.number ≡ Some 0) × IsAtEnd left')
    ⊎ ((length blocks ≡ 18446744073709551615) × (went.got.number ≡ Some 0 → ⊥))

-- What is left after the whole script, the last answer at the output's start: the blocks read, one for each read, all answers before the last,
-- and where the program then stood. The bytes of all reads have the checksum of these blocks, the bytes handed to the output that of what the
-- input prints, and their number.
pub record Ended (start : Kept) (known : Known) (went : Went) (known' : Known) (memory' out' : List ℕ) : Type 0 where
  pub blocks : List (List ℕ)
  pub answers : List ℕ
  pub before : Kept
  pub stopped : Stopped blocks went known'.left
  pub received : Received blocks went.got known.left known'.left
  pub read : Read start blocks answers before
  pub last : ℕ
  pub printed : answers ++ take last out' ≡ (script_outcome (whole blocks)).printed
  pub table : table_in memory' went.place.slots ≡ (script_outcome (whole blocks)).table
  pub handed : HandedOver unsent known.held (script_outcome (whole blocks)).printed went.sent known'.held

-- Where reading breaks off: the blocks read, the last of them taken in part, all answers until then, and these handed to the output.
pub record BrokenOff (start : Kept) (known : Known) (went : Went) (known' : Known) : Type 0 where
  pub blocks : List (List ℕ)
  pub answers : List ℕ
  pub before : Kept
  pub read : Read start blocks answers before
  pub last : List ℕ
  pub more : List ℕ
  pub end : Kept
  pub from : ℕ
  pub called : Called last before more end from
  pub received : Received (blocks ++ last ∷ []) went.got known.left known'.left
  pub handed : HandedOver unsent known.held (answers ++ more) went.sent known'.held

-- the blocks read one after the other, one for each read, and their answers handed to the output
pub record ReadAll (start : Kept) (known : Known) (went : Went) (end : Kept) (known' : Known) : Type 0 where
  pub failed : went.well ≡ false → Failed went × BrokenOff start known went known'
  pub written : went.well ≡ true → went.sent.well ≡ true
  pub read : went.well ≡ true
      → (blocks : List (List ℕ)) × (bytes : List ℕ) × Stopped blocks went known'.left × Received blocks went.got known.left known'.left
      × HandedOver unsent known.held bytes went.sent known'.held × Read start blocks bytes end

-- the whole run: where it fails, all was handed to the output until then, to the end or not; where it does not, to the end, and all was written
pub record RanAll (start : Kept) (known : Known) (went : Went) (known' : Known) (memory' out' : List ℕ) : Type 0 where
  pub failed : went.well ≡ false → Failed went × (BrokenOff start known went known' ⊎ Ended start known went known' memory' out')
  pub ended : went.well ≡ true → (went.sent.well ≡ true) × Ended start known went known' memory' out'

-- A reader's whole input answered: the writer then also holds what this script prints, and the memory has its table.
abbrev pub Answered : Known → Went → Known → List ℕ → Type 0
Answered known went known' memory' =
    IfSome known.left (λ input. Appends known.held known'.held (script_outcome input).printed
    × (table_in memory' went.place.slots ≡ (script_outcome input).table))
