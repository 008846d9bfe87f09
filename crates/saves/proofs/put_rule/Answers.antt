-- `saves::put_rule` meets its contract.
-- The entry goes to the contents, the body to the bodies.
use mathlib.Core.Path.{ap, ap₂, ◌∙◌}
use mathlib.Core.List.{List}
use Prim.Native.Nat.{ℕ}
use native.Mathlib.Omega.{arith}
use Rattle.records.specs.Record.{slot_words, ident}
use Rattle.image.specs.Bytes.{store}
use Rattle.image.specs.Format.{entry_place, entry_of, body_of}
use Rattle.image.proofs.SaveLaws.{body_within}
use Rattle.saves.proofs.put_rule.Goals as goal

pub put_body-requires : goal.put_body-requires
put_body-requires c =
    let a = c.args in
    let asked = c.requires in
    (asked.0, omega (arith, c.body_place-body.ensures, body_within a.width a.rules a.rule asked.2), asked.3)

pub returns : goal.returns
returns c =
    let a = c.args in
    let x = slot_words a.width a.table.now a.slot in
    let body = c.body_place-body in
    c.put_body.ensures
    ∙ ap₂ (λ (i : List ℕ) (p : ℕ). store i p (body_of a.width x))
    (c.put_entry.ensures
    ∙ (ap₂ (λ (p id : ℕ). store a.image.now p (entry_of id a.slot body.result)) c.entry_place.ensures c.slot_id.ensures
    ∙ ap (λ (p : ℕ). store a.image.now (entry_place a.rule) (entry_of (ident a.width x) a.slot p)) body.ensures))
    body.ensures
