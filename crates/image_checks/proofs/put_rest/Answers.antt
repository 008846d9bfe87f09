-- `image_checks::put_rest` meets its contract.
-- An id and an action of four bytes each fit one word; the rank is stored behind it.
use mathlib.Core.Path.{ap, ap₂, ◌∙◌}
use mathlib.Core.List.{[], ◌∷◌}
use Prim.Native.Nat.{ℕ, ◌+◌, ◌*◌}
use native.Mathlib.Omega.{arith}
use borrow.Author.Rules.{rules}
use lib.ListN.{set, length-set}
use Rattle.image.specs.Bytes.{number_at}
use Rattle.image.proofs.BytesLaws.{number_small, store_one, store_then}
use Rattle.image_checks.proofs.put_rest.Goals as goal

pub overflow_mul-table : goal.overflow_mul-table
overflow_mul-table c =
    let a = c.args in
    let id = number_small 4 a.image.now a.named (λ i. search rules) in
    let action = number_small 4 a.image.now (a.tail + 4) (λ i. search rules) in
    omega (arith, c.number_at-id.ensures, c.number_at-action.ensures, id, action)

pub overflow_add-table : goal.overflow_add-table
overflow_add-table c =
    let a = c.args in
    let id = number_small 4 a.image.now a.named (λ i. search rules) in
    let action = number_small 4 a.image.now (a.tail + 4) (λ i. search rules) in
    omega (arith, c.number_at-id.ensures, c.number_at-action.ensures, id, action)

pub bounds-table-at-2 : goal.bounds-table-at-2
bounds-table-at-2 c =
    let a = c.args in
    omega (arith, length-set a.table.now a.at (c.number_at-id.result * 4294967296 + c.number_at-action.result))

pub returns : goal.returns
returns c =
    let a = c.args in
    let id = number_at a.image.now a.named 4 in
    let action = number_at a.image.now (a.tail + 4) 4 in
    let last = number_at a.image.now a.tail 4 in
    let first = set a.table.now a.at (id * 4294967296 + action) in
    ap₂ (λ (i x : ℕ). set (set a.table.now a.at (i * 4294967296 + x)) (a.at + 1) c.number_at.result) c.number_at-id.ensures c.number_at-action.ensures
    ∙ (ap (set first (a.at + 1)) c.number_at.ensures
    ∙ store_then a.table.now a.at (a.at + 1) ((id * 4294967296 + action) ∷ []) (last ∷ []) (omega arith) (omega arith)
    (store_one a.table.now a.at (id * 4294967296 + action) (omega arith))
    (store_one first (a.at + 1) last (omega (arith, length-set a.table.now a.at (id * 4294967296 + action)))))
