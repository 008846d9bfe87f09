-- End theorems: what naming a table as uncounted changes, for any number of words.
use Rattle.std.specs.Prelude.{refl, true, false, not, ℕ}
use Rattle.std.proofs.Common.{sym, ap, true≢false, ne_eqb}
use Rattle.records.proofs.Laws.{precedes_law, tied_law, misordered_law, order_loosened, checks_loosened}
use Rattle.refusals.proofs.TableLaws.{table_rows_lem}
use Rattle.promises.specs.Uncounted.{Uncounted}

pub uncounted : (w : ℕ) → Uncounted w
uncounted w = record {
  zero = refl;
  other = λ n some. ap not (ne_eqb n 0 some);
  counted = λ a b. (λ o. (o.0, o.1, o.2, o.3), λ o. (o.0, o.1, o.2, o.3, λ named. absurd (true≢false (sym named))));
  looser = λ a b. (
    λ o. ((o.0, o.1, o.2, o.3, λ named. absurd (true≢false (sym named))), o.4 refl),
    λ o. (o.0.0, o.0.1, o.0.2, o.0.3, λ named. o.1),
  );
  precede = precedes_law w;
  tie = tied_law w;
  misplace = misordered_law w;
  order = order_loosened w true;
  passes = λ t accepts. (table_rows_lem w true t).passes.0 (checks_loosened w true t ((table_rows_lem w false t).passes.1 accepts));
}
