-- Transactions of one server, by its number and their intervals.
-- MySQL internals, "Replication Protocol": COM_BINLOG_DUMP_GTID.
use Rattle.std.specs.Prelude.{ℕ, Bool, ◌&&◌, nat_eq, List}
use Rattle.std.specs.Cmp.{IsEquivalence, and_equiv, nat_eq_equiv, on_equiv}
use Rattle.std.specs.Cmp.Lexicographic.{lists_equiv, nat_list_eq_equiv, pointwise}

-- the server's number in bytes, and the numbers of its transactions: each first, and the one after the last
pub record Transactions : Type 0 where
  pub uuid : List ℕ
  pub intervals : List (ℕ × ℕ)

abbrev pub same_interval : ℕ × ℕ → ℕ × ℕ → Bool
same_interval x y = nat_eq x.0 y.0 && nat_eq x.1 y.1

-- the same server and the same intervals
abbrev pub same_transactions : Transactions → Transactions → Bool
same_transactions x y = pointwise nat_eq x.uuid y.uuid && pointwise same_interval x.intervals y.intervals

pub same_interval_laws : IsEquivalence same_interval
same_interval_laws =
    and_equiv (on_equiv (λ (i : ℕ × ℕ). i.0) nat_eq_equiv) (on_equiv (λ (i : ℕ × ℕ). i.1) nat_eq_equiv)

pub same_transactions_laws : IsEquivalence same_transactions
same_transactions_laws =
    and_equiv (on_equiv (λ (t : Transactions). t.uuid) nat_list_eq_equiv)
    (on_equiv (λ (t : Transactions). t.intervals) (lists_equiv same_interval_laws))
