-- Laws on the known bytes of a reader and a writer.
use Rattle.std.specs.Prelude.{◌≡◌, Bool, true, List, [], ◌++◌, ℕ, ◌+◌, length, take, Option, None, Some, IfSome}
use Rattle.std.proofs.Common.{sym, ap, ◌∙◌, subst, arith, append-nil, length-append}
use Rattle.std.proofs.Math.Seq.{take-append-add}
use Rattle.std.proofs.KnownBytes.{Appends-nil, Appends-trans}
use Rattle.std.specs.Io.KnownBytes.{Keeps, Consumes, IsAtEnd, Appends}
use Rattle.tcam_script.specs.Streams.{Wrote}

-- no byte written
pub wrote_nothing : (held : Option (List ℕ)) (well : Bool) → Wrote held held [] well
wrote_nothing held well = record { all = λ w. Appends-nil held; some = (0, omega arith, Appends-nil held) }

-- bytes written one after the other, the first of them all
pub wrote_on : {held held' held'' : Option (List ℕ)} {a b : List ℕ} {first well : Bool} → first ≡ true → Wrote held held' a first → Wrote held' held'' b well
    → Wrote held held'' (a ++ b) well
wrote_on {held} {held'} {held''} {a} {b} t first second =
    let count = second.some.0 in record {
      all = λ w. Appends-trans held held' held'' a b (first.all t) (second.all w);
      some = (
        length a + count,
        (let n = length-append a b in omega (arith, n, second.some.1)),
        subst (Appends held held'') (sym (take-append-add a b count)) (Appends-trans held held' held'' a (take count b) (first.all t) second.some.2),
      );
    }

-- a read that failed took no byte
pub kept_nothing : (left left' : Option (List ℕ)) → Keeps left left' → Consumes left left' []
kept_nothing None left' h = tt
kept_nothing (Some x) None h = absurd h
kept_nothing (Some x) (Some y) h = sym h

-- what was taken until the end is all that there was
pub taken_all : (left left' : Option (List ℕ)) (bytes : List ℕ) → Consumes left left' bytes → IsAtEnd left' → IfSome left (λ input. bytes ≡ input)
taken_all None left' bytes h e = tt
taken_all (Some x) None bytes h e = absurd h
taken_all (Some x) (Some y) bytes h e = sym (h ∙ ap (λ (l : List ℕ). bytes ++ l) e ∙ append-nil bytes)

pub if_some_on : (known : Option (List ℕ)) (P Q : List ℕ → Type 0) → ((x : List ℕ) → P x → Q x) → IfSome known P → IfSome known Q
if_some_on None P Q f h = tt
if_some_on (Some x) P Q f h = f x h
