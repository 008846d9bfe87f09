-- `script_fields::all_symbols` meets its contract.
-- What the iterator answers of a list is what the definition says of it.
use Rattle.std.proofs.Common.{◌≡◌, ◌∙◌, Bool, ℕ, List, refl, ◌&&◌, rules, tests}
use Rattle.std.specs.List.{list_all}
use Rattle.std.proofs.lemmas.Iterator.{YieldsList-from_slice}
use Rattle.std.proofs.lemmas.Iterator.Search.{all_from_yields_List}
use Rattle.std.proofs.lemmas.List.Recursion.{same_from_clauses}
use Rattle.script_text.specs.Decimal.{every}
use Rattle.script_fields.specs.Fields.{symbol}
use Rattle.script_fields.proofs.all_symbols.Goals as goal

every_all : (p : ℕ → Bool) (x : List ℕ) → list_all p x ≡ every p x
unfolding every
every_all p x = same_from_clauses (list_all p) (every p) (λ (b : ℕ) (rest : Bool). p b && rest) refl (λ b y. refl) (λ b y. refl) x

pub returns : goal.returns
returns c =
    let p = symbol c.args.last c.args.star in
    all_from_yields_List p _ _ _ c.all.ensures.ran (YieldsList-from_slice c.args.field.now cc) (λ x b q k. search (rules, tests)) ∙ every_all p c.args.field.now
