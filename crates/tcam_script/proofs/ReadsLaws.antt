-- Laws on what the program makes of its reads and writes: one block more, one turn more, and why it stops.
use Rattle.std.specs.Prelude.{◌≡◌, refl, Bool, true, false, ◌⊎◌, List, [], ◌∷◌, ◌++◌, ℕ, zero, suc, ◌+◌, ◌-◌, ◌≤◌, ◌<◌, min, length, take, Option, None, Some, is_some}
use Rattle.std.proofs.Common.{sym, ap, ◌∙◌, subst, true≢false, arith, append_assoc, append-nil, length-append, length-take, take_all}
use Rattle.std.proofs.lemmas.Bool.{false≢true}
use Rattle.std.proofs.Math.Logic.◌⊎◌.{inl, inr}
use Rattle.std.proofs.Math.Decide.{dec_le}
use Rattle.std.proofs.KnownBytes.{Consumes-nil, Consumes-trans}
use Rattle.std.specs.Io.KnownBytes.{Consumes, IsAtEnd, Appends}
use Rattle.script_lines.specs.Blocks.{whole, finished}
use Rattle.script_printing.specs.Printing.{Shown}
use Rattle.script.specs.Script.{line_outcome, table_in}
use Rattle.script_turns.specs.declared.Place.{Place}
use Rattle.script_turns.specs.declared.Turn.{Turn}
use Rattle.script_turns.specs.Reading.{reading_of, Turned}
use Rattle.script_transcripts.specs.Whole.{Kept, keeping, Called, Through, Read, opening, script_outcome}
use Rattle.script_transcripts.proofs.WholeLaws.{script_printed, shown_within}
use Rattle.tcam_script.specs.declared.console.Got.{Got}
use Rattle.tcam_script.specs.declared.console.Sent.{Sent}
use Rattle.tcam_script.specs.declared.Went.{Went}
use Rattle.tcam_script.specs.Checksum.{checksum_on, checksum_of, block_of}
use Rattle.tcam_script.proofs.ChecksumLaws.{checksum_append}
use Rattle.tcam_script.specs.Streams.{Known, known, ReadGave, Wrote}
use Rattle.tcam_script.proofs.StreamsLaws.{wrote_nothing, wrote_on, kept_nothing, taken_all, if_some_on}
use Rattle.tcam_script.specs.Reads.{unsent, HandedOver, Received, TookBlock, Stopped, capped, TookRead, Failed, BrokenOff, Ended, ReadAll, RanAll, Answered}

decided : (b : Bool) → (b ≡ true) ⊎ (b ≡ false)
decided true = inl refl
decided false = inr refl

-- numbers read are told apart, and from none
abbrev count_or : ℕ → Option ℕ → ℕ
count_or d None = d
count_or d (Some n) = n

some_apart : (k : ℕ) → Some (suc k) ≡ Some 0 → ⊥
some_apart k e = let h = ap (count_or 0) e in omega (arith, h)

none_apart : (k : ℕ) → None ≡ Some k → ⊥
none_apart k e = let h = ap (count_or (suc k)) e in omega (arith, h)

-- while blocks are read: so many more may be
pub record ReadSome (start : Kept) (known : Known) (turns : ℕ) (went : Went) (end : Kept) (known' : Known) : Type 0 where
  pub goes : went.more ≡ true → went.well ≡ true
  pub failed : went.well ≡ false → Failed went × BrokenOff start known went known'
  pub written : went.well ≡ true → went.sent.well ≡ true
  pub read : went.well ≡ true
      → (blocks : List (List ℕ)) × (bytes : List ℕ)
      × (went.more ≡ false → (before : List (List ℕ)) × (blocks ≡ before ++ [] ∷ []) × (went.got.number ≡ Some 0) × IsAtEnd known'.left)
      × (went.more ≡ true → went.got.number ≡ Some 0 → ⊥)
      × (turns + length blocks ≡ 18446744073709551615) × Received blocks went.got known.left known'.left
      × HandedOver unsent known.held bytes went.sent known'.held × Read start blocks bytes end

-- bytes handed over one after the other
pub handed_on : {before : Sent} {held held' held'' : Option (List ℕ)} {a : List ℕ} {mid : Sent} {b : List ℕ} {sent : Sent} → mid.well ≡ true
    → HandedOver before held a mid held' → HandedOver mid held' b sent held'' → HandedOver before held (a ++ b) sent held''
handed_on {before} {a = a} {mid} {b} {sent} t h g = record {
  count = let n = length-append a b in let first = h.count in let second = g.count in omega (arith, n, first, second);
  checksum = g.checksum ∙ (ap (λ (sum : ℕ). checksum_on sum b) h.checksum ∙ sym (checksum_append before.checksum a b));
  wrote = wrote_on t h.wrote g.wrote;
}

whole_append : (blocks : List (List ℕ)) (block : List ℕ) → whole (blocks ++ block ∷ []) ≡ whole blocks ++ block
unfolding whole
whole_append [] block = append-nil block
whole_append (b ∷ blocks) block = ap (λ (x : List ℕ). b ++ x) (whole_append blocks block) ∙ sym (append_assoc b (whole blocks) block)

pub nothing_more : (sent : Sent) (held : Option (List ℕ)) → sent.bytes ≤ 18446744073709551615 → HandedOver sent held [] sent held
unfolding checksum_on
nothing_more sent held h = record { count = omega arith; checksum = refl; wrote = wrote_nothing held sent.well }

-- an answer handed over
pub answer_handed : {out text : List ℕ} {count : ℕ} {out' : List ℕ} → Shown out text count out' → (before : Sent) (held : Option (List ℕ)) (sent : Sent)
    (held' : Option (List ℕ)) → sent.bytes ≡ capped (before.bytes + count) → sent.checksum ≡ checksum_on before.checksum (take count out')
    → Wrote held held' (take count out') sent.well → HandedOver before held (take count out') sent held'
answer_handed {count = count} {out'} shown before held sent held' e sum wrote = record {
  count = let part = length-take count out' in let within = shown_within shown in omega (arith, e, part, within);
  checksum = sum;
  wrote = wrote;
}

-- one block more
module _ (start : Kept) (known : Known) (blocks : List (List ℕ)) (bytes : List ℕ) (kept : Kept) (read : Read start blocks bytes kept) (before : Sent)
    (held : Option (List ℕ)) (handed : HandedOver unsent known.held bytes before held) (written : before.well ≡ true) (turns : ℕ) (some : 0 < turns)
    (left : turns + length blocks ≡ 18446744073709551615) (got : Got) (has : Option (List ℕ)) (received : Received blocks got known.left has) where
  fewer : (block : List ℕ) → turns - 1 + length (blocks ++ block ∷ []) ≡ 18446744073709551615
  fewer block = let n = length-append blocks (block ∷ []) in omega (arith, n)

  each : (block : List ℕ) (after : Got) (has' : Option (List ℕ)) → after.reads ≡ capped (got.reads + 1) → after.checksum ≡ checksum_on got.checksum block
      → Consumes has has' block → Received (blocks ++ block ∷ []) after known.left has'
  each block after has' count sum took = record {
    reads = let n = length-append blocks (block ∷ []) in let before = received.reads in omega (arith, n, count, before);
    checksum =
        sum
        ∙ (ap (λ (s : ℕ). checksum_on s block) received.checksum
        ∙ (sym (checksum_append 1 (whole blocks) block) ∙ ap checksum_of (sym (whole_append blocks block))));
    taken = subst (Consumes known.left has') (sym (whole_append blocks block)) (Consumes-trans known.left has has' (whole blocks) block received.taken took);
  }

  nothing_handed : (sent : Sent) (held' : Option (List ℕ)) → sent ≡ before → held' ≡ held → HandedOver unsent known.held (bytes ++ []) sent held'
  nothing_handed sent held' s e =
      subst (HandedOver unsent known.held (bytes ++ []) sent) (sym e)
      (subst (λ (x : Sent). HandedOver unsent known.held (bytes ++ []) x held) (sym s)
      (handed_on written handed (nothing_more before held (let h = handed.count in omega (arith, h)))))

  broken : (block more : List ℕ) (end : Kept) (from : ℕ) → Called block kept more end from → (went : Went) (known' : Known)
      → went.got.reads ≡ capped (got.reads + 1) → went.got.checksum ≡ checksum_on got.checksum block → Consumes has known'.left block
      → HandedOver unsent known.held (bytes ++ more) went.sent known'.held → BrokenOff start known went known'
  broken block more end from called went known' count sum took handed' = record {
    blocks = blocks;
    answers = bytes;
    before = kept;
    read = read;
    last = block;
    more = more;
    end = end;
    from = from;
    called = called;
    received = each block went.got known'.left count sum took;
    handed = handed';
  }

  by_answer : (number : Option ℕ) (buffer : List ℕ) (went : Went) (end : Kept) (known' : Known) → number ≡ went.got.number
      → went.got.reads ≡ capped (got.reads + 1) → went.got.checksum ≡ checksum_on got.checksum (block_of number buffer)
      → ReadGave number buffer has known'.left → TookRead number buffer kept before held went known'.held end
      → ReadSome start known (turns - 1) went end known'
  unfolding TookRead
  by_answer None buffer went end known' same counted sum gave (m, w, s, h, e) = record {
    goes = λ t. absurd (false≢true (sym m ∙ t));
    failed = λ f. (
      inr (sym same, omega (arith, counted)),
      broken [] [] kept 0 Called.begin went known' counted sum (kept_nothing has known'.left gave) (nothing_handed went.sent known'.held s h),
    );
    written = λ t. absurd (false≢true (sym w ∙ t));
    read = λ t. absurd (false≢true (sym w ∙ t));
  }
  by_answer (Some zero) buffer went end known' same counted sum gave (m, w, s, h, e) = record {
    goes = λ t. w;
    failed = λ f. absurd (true≢false (sym w ∙ f));
    written = λ t. ap (λ (x : Sent). x.well) s ∙ written;
    read = λ t. (
      blocks ++ [] ∷ [],
      bytes ++ [],
      λ f. (blocks, refl, sym same, gave.1 refl),
      λ g. absurd (false≢true (sym m ∙ g)),
      fewer [],
      each [] went.got known'.left counted sum gave.0,
      nothing_handed went.sent known'.held s h,
      Read.one_more blocks bytes kept read [] [] end (subst (Through [] kept []) (sym e) (0, omega arith, Called.begin)),
    );
  }
  by_answer (Some (suc k)) buffer went end known' same counted sum gave (m, w, t) = record {
    goes = λ g. sym m ∙ g;
    failed = λ f. let o = t.stopped (sym w ∙ f) in (
      inl (sym w ∙ f),
      broken (take (suc k) buffer) o.0 end o.2 o.3 went known' counted sum gave.0 (handed_on written handed o.1),
    );
    written = λ g. sym w ∙ g;
    read = λ g.
        let o = t.through (sym w ∙ g) in (
          blocks ++ take (suc k) buffer ∷ [],
          bytes ++ o.0,
          λ f. absurd (false≢true (sym f ∙ (m ∙ g))),
          λ a e. absurd (some_apart k (same ∙ e)),
          fewer (take (suc k) buffer),
          each (take (suc k) buffer) went.got known'.left counted sum gave.0,
          handed_on written handed o.1,
          Read.one_more blocks bytes kept read (take (suc k) buffer) o.0 end o.2,
        );
  }

-- before any read
pub nothing_read : (start : Kept) (known : Known) (went : Went) → went.more ≡ true → went.well ≡ true → (went.got.number ≡ None) × (went.got.reads ≡ 0) × (went.got.checksum ≡ 1)
    → (went.sent.bytes ≡ 0) × (went.sent.checksum ≡ 1) × (went.sent.well ≡ true) → ReadSome start known 18446744073709551615 went start known
unfolding checksum_on whole
nothing_read start known went m w got sent = record {
  goes = λ t. w;
  failed = λ f. absurd (true≢false (sym w ∙ f));
  written = λ t. sent.2;
  read = λ t. (
    [],
    [],
    λ f. absurd (true≢false (sym m ∙ f)),
    λ g e. none_apart 0 (sym got.0 ∙ e),
    omega arith,
    record { reads = got.1; checksum = got.2; taken = Consumes-nil known.left },
    record { count = let none = sent.0 in omega (arith, none); checksum = sent.1; wrote = wrote_nothing known.held went.sent.well },
    Read.nothing,
  );
}

pub block_read : (start : Kept) (known : Known) (turns : ℕ) (went : Went) (memory line : List ℕ) (mid : Known)
    → ReadSome start known turns went (keeping memory line went.place) mid → went.more ≡ true → 0 < turns
    → (buffer : List ℕ) (after : Went) (end : Kept) (known' : Known) → after.got.reads ≡ capped (went.got.reads + 1)
    → after.got.checksum ≡ checksum_on went.got.checksum (block_of after.got.number buffer) → ReadGave after.got.number buffer mid.left known'.left
    → TookRead after.got.number buffer (keeping memory line went.place) went.sent mid.held after known'.held end
    → ReadSome start known (turns - 1) after end known'
block_read start known turns went memory line mid some more left buffer after end known' counted sum gave took =
    let well = some.goes more in
    let r = some.read well in
    by_answer start known r.0 r.1 (keeping memory line went.place) r.7 went.sent mid.held r.6 (some.written well) turns left r.4 went.got mid.left r.5
    after.got.number buffer after end known' refl counted sum gave took

-- the loop ends: at the last block, or where no more may be read
pub reading_ends : (start : Kept) (known : Known) (turns : ℕ) (went : Went) (end : Kept) (known' : Known) → ReadSome start known turns went end known'
    → (went.more ≡ false) ⊎ (turns ≤ 0) → ReadAll start known went end known'
reading_ends start known turns went end known' some why = record {
  failed = some.failed;
  written = some.written;
  read = λ w. let r = some.read w in (r.0, r.1, pick r.0 r.2 r.3 r.4 (decided went.more) why, r.5, r.6, r.7);
}
  where
    pick : (blocks : List (List ℕ))
        → (went.more ≡ false → (before : List (List ℕ)) × (blocks ≡ before ++ [] ∷ []) × (went.got.number ≡ Some 0) × IsAtEnd known'.left)
        → (went.more ≡ true → went.got.number ≡ Some 0 → ⊥) → turns + length blocks ≡ 18446744073709551615 → (went.more ≡ true) ⊎ (went.more ≡ false)
        → (went.more ≡ false) ⊎ (turns ≤ 0) → Stopped blocks went known'.left
    pick blocks last on n (inr f) why = inl (last f)
    pick blocks last on n (inl t) (inl f) = absurd (true≢false (sym t ∙ f))
    pick blocks last on n (inl t) (inr z) = inr (omega arith, on t)

-- After all blocks, the last turn.
pub all_ran : (memory line : List ℕ) (known : Known) → length line ≡ 257 → (kept : Kept) (went : Went) (mid : Known)
    → ReadAll (opening memory line) known went kept mid → went.well ≡ true → (turn : Turn) (memory' out out' : List ℕ)
    → Turned (finished line_outcome (reading_of kept.memory kept.line kept.place)) 0 turn kept.memory memory' kept.line out out'
    → (sent : Sent) (held' : Option (List ℕ)) → sent.bytes ≡ capped (went.sent.bytes + turn.length)
    → sent.checksum ≡ checksum_on went.sent.checksum (take turn.length out') → Wrote mid.held held' (take turn.length out') sent.well
    → (well : Bool) → well ≡ sent.well
    → RanAll (opening memory line) known (record { place = turn.place; sent = sent; got = went.got; more = false; well = well })
    (record { left = mid.left; held = held' }) memory' out'
all_ran memory line known h kept went mid all w turn memory' out out' t sent held' count sum wrote well same =
    let (blocks, bytes, stopped, received, handed, read) = all.read w in
    let told = script_printed memory line h blocks bytes kept read turn memory' out out' t in
    let went' : Went = record { place = turn.place; sent = sent; got = went.got; more = false; well = well } in
    let known' : Known = record { left = mid.left; held = held' } in
    let ended : Ended (opening memory line) known went' known' memory' out' = record {
      blocks = blocks;
      answers = bytes;
      before = kept;
      stopped = stopped;
      received = received;
      read = read;
      last = turn.length;
      printed = told.0;
      table = told.1;
      handed = subst (λ (x : List ℕ). HandedOver unsent known.held x sent held') told.0
          (handed_on (all.written w) handed (answer_handed t.shown went.sent mid.held sent held' count sum wrote));
    } in
    record { failed = λ f. (inl (sym same ∙ f), inr ended); ended = λ g. (sym same ∙ g, ended) }

-- What was read until the end is the reader's whole input, and all that it prints was written.
pub all_answered : (start : Kept) (known : Known) (went : Went) (known' : Known) (memory' out' : List ℕ) → RanAll start known went known' memory' out'
    → went.well ≡ true → went.got.number ≡ Some 0 → Answered known went known' memory'
all_answered start known went known' memory' out' ran w e =
    let (well, ended) = ran.ended w in
    if_some_on known.left (λ (input : List ℕ). whole ended.blocks ≡ input)
    (λ (input : List ℕ). Appends known.held known'.held (script_outcome input).printed × (table_in memory' went.place.slots ≡ (script_outcome input).table))
    (λ input same.
    subst (λ (x : List ℕ). Appends known.held known'.held (script_outcome x).printed × (table_in memory' went.place.slots ≡ (script_outcome x).table)) same
    (ended.handed.wrote.all well, ended.table))
    (taken_all known.left known'.left (whole ended.blocks) ended.received.taken (at_end ended.stopped))
  where
    at_end : {blocks : List (List ℕ)} → Stopped blocks went known'.left → IsAtEnd known'.left
    at_end (inl s) = s.3
    at_end (inr s) = absurd (s.1 e)

-- the code's three ways: a failure, the end, and some bytes
pub read_failed : (number : Option ℕ) (buffer : List ℕ) (start : Kept) (before : Sent) (held : Option (List ℕ)) (went : Went) → number ≡ None
    → went.more ≡ false → went.well ≡ false → went.sent ≡ before → TookRead number buffer start before held went held start
unfolding TookRead
read_failed number buffer start before held went e m w s =
    subst (λ (x : Option ℕ). TookRead x buffer start before held went held start) (sym e) (m, w, s, refl, refl)

pub read_end : (number : Option ℕ) (buffer : List ℕ) (start : Kept) (before : Sent) (held : Option (List ℕ)) (went : Went) → number ≡ Some 0
    → went.more ≡ false → went.well ≡ true → went.sent ≡ before → TookRead number buffer start before held went held start
unfolding TookRead
read_end number buffer start before held went e m w s =
    subst (λ (x : Option ℕ). TookRead x buffer start before held went held start) (sym e) (m, w, s, refl, refl)

-- both at once: nothing was read, for a failure or at the end
pub read_none : (got : Option ℕ) (buffer : List ℕ) (start : Kept) (place : Place) (sent : Sent) (held : Option (List ℕ)) (told : Got) → count_or 0 got ≡ 0
    → TookRead got buffer start sent held (record { place = place; sent = sent; got = told; more = false; well = is_some got }) held start
unfolding TookRead
read_none None buffer start place sent held told t = (refl, refl, refl, refl, refl)
read_none (Some zero) buffer start place sent held told t = (refl, refl, refl, refl, refl)
read_none (Some (suc k)) buffer start place sent held told t = absurd (omega (arith, t))

take_min : (k : ℕ) (x : List ℕ) → take (min k (length x)) x ≡ take k x
take_min k x = pick (dec_le k (length x))
  where
    pick : Dec (k ≤ length x) → take (min k (length x)) x ≡ take k x
    pick (yes h) = let e : min k (length x) ≡ k = omega arith in ap (λ (n : ℕ). take n x) e
    pick (no h) = take_all (min k (length x)) x (omega arith) ∙ sym (take_all k x (omega arith))

-- the bytes of a read, by a count that is kept within the buffer
pub block_counted : (number : Option ℕ) (buffer : List ℕ) (count : ℕ) → count ≡ min (count_or 0 number) (length buffer)
    → take count buffer ≡ block_of number buffer
block_counted (Some k) buffer count e = ap (λ (n : ℕ). take n buffer) e ∙ take_min k buffer
block_counted None buffer count e = let none : count ≡ 0 = omega (arith, e) in ap (λ (n : ℕ). take n buffer) none

pub read_some : (number : Option ℕ) (k : ℕ) (buffer : List ℕ) (start : Kept) (before : Sent) (held : Option (List ℕ)) (went : Went)
    (held' : Option (List ℕ)) (end : Kept) (count : ℕ) → number ≡ Some k → (k ≡ 0 → ⊥) → count ≡ min k (length buffer) → went.more ≡ went.well
    → went.well ≡ went.sent.well → TookBlock (take count buffer) start before held went.sent held' end
    → TookRead number buffer start before held went held' end
unfolding TookRead
read_some number zero buffer start before held went held' end count e some n m w t = absurd (some refl)
read_some number (suc k) buffer start before held went held' end count e some n m w t =
    subst (λ (x : Option ℕ). TookRead x buffer start before held went held' end) (sym e)
    (m, w, subst (λ (x : List ℕ). TookBlock x start before held went.sent held' end) (ap (λ (i : ℕ). take i buffer) n ∙ take_min (suc k) buffer) t)
