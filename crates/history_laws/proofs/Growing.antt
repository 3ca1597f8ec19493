-- What the payloads of a response give, and what they leave as it was.
use Rattle.std.proofs.Common.{◌≡◌, ℕ, suc, ◌-◌, List, [], ◌∷◌, length, nat_le, Bool, true, false, cond, Option, Some, None, refl, sym, ap, subst, arith}
use Rattle.my_flags.specs.declared.flags.StatusFlags.{StatusFlags}
use Rattle.my_flags.specs.Sets.{deprecates_eof}
use Rattle.my_grammar.specs.declared.login.Login.{Login}
use Rattle.my_grammar.specs.declared.packet.Packet.{Packet}
use Rattle.my_grammar.specs.declared.spot.Kind.{Kind}
use Rattle.my_grammar.specs.declared.spot.Kind.TheVariants as kinds
use Rattle.my_grammar.specs.Cut.{is_over}
use Rattle.my_grammar.specs.declared.spot.Terms.{Terms}
use Rattle.my_grammar.specs.FitSets.{FitSets}
use Rattle.my_grammar.specs.Growth.{grow}
use Rattle.my_grammar.specs.Sets.{Sets, SetHead, NoSets, Heading, Headed, Begun, grow_sets, with_row, with_end, packets_in, with_column_of}
use Rattle.my_grammar.specs.Talk.{Talk, Start, Queried}
use Rattle.history_laws.specs.Groups.{Group, groups, IsEarlier}
use Rattle.history_laws.specs.Given.{IsGiven, ends_with_ok, sets_of}

-- the payloads that give nothing
abbrev pub is_quiet : Kind → Bool
is_quiet (kinds.Good status) = false
is_quiet kinds.Row = false
is_quiet (kinds.End status) = false
is_quiet k = true

error_groups : (d : Bool) (x : Sets) (p : List ℕ) → groups (grow_sets d kinds.Failed x p) ≡ groups x
error_groups d (NoSets asking) p = refl
error_groups d _ p = refl

column_groups : (d : Bool) (x : Sets) (p : List ℕ) → groups (grow_sets d kinds.Column x p) ≡ groups x
column_groups d (Heading older head left) p = by_left (nat_le left 1) d
  where
    by_left : (b e : Bool) → groups (cond b (cond e (Begun older (with_column_of head p) []) (Headed older (with_column_of head p))) (Heading older (with_column_of head p) (left - 1))) ≡ groups older
    by_left true true = refl
    by_left true false = refl
    by_left false e = refl
column_groups d _ p = refl

close_groups : (d : Bool) (x : Sets) (p : List ℕ) → groups (grow_sets d kinds.ColumnsDone x p) ≡ groups x
close_groups d (NoSets asking) p = refl
close_groups d _ p = refl

pub quiet_groups : (d : Bool) (k : Kind) (x : Sets) (p : List ℕ) → is_quiet k ≡ true → groups (grow_sets d k x p) ≡ groups x
quiet_groups d (kinds.Good s) x p e = cc
quiet_groups d kinds.Failed x p e = error_groups d x p
quiet_groups d kinds.Column x p e = column_groups d x p
quiet_groups d kinds.ColumnsDone x p e = close_groups d x p
quiet_groups d kinds.Row x p e = cc
quiet_groups d (kinds.End s) x p e = cc
quiet_groups d _ x p e = refl

-- a row, and an end of rows, come only after a head
pub record InRows (x : Sets) : Type 0 where
  pub older : Sets
  pub head : SetHead
  pub rows : List (List ℕ)
  pub sets_are : x ≡ Begun older head rows

longer : (packet : Packet) (packets : List Packet) → packets ≡ packet ∷ packets → ⊥
longer packet packets e = let more : length packets ≡ suc (length packets) = ap length e in absurd (omega arith)

pub row_in_rows : (x : Sets) (p : List ℕ) (packet : Packet) → packets_in (with_row x p) ≡ packet ∷ packets_in x → InRows x
row_in_rows (Begun older head rows) p packet e = record { older = older; head = head; rows = rows; sets_are = refl }
row_in_rows _ p packet e = absurd (longer packet _ e)

pub end_in_rows : (x : Sets) (p : List ℕ) (status : StatusFlags) (packet : Packet) → packets_in (with_end x p status) ≡ packet ∷ packets_in x → InRows x
end_in_rows (Begun older head rows) p status packet e = record { older = older; head = head; rows = rows; sets_are = refl }
end_in_rows _ p status packet e = absurd (longer packet _ e)

-- what was at some moment was so still when more was read
start_sets : (k : Kind) (login : Login) (p : List ℕ) → (sets_of (grow k (Start login) p) ≡ sets_of (Start login)) × (ends_with_ok (grow k (Start login) p) ≡ true)
start_sets (kinds.Greets n) login p = (refl, refl)
start_sets _ login p = (refl, refl)

some_given : (g : List Group) (t : Talk) (k : Kind) (p : List ℕ) → IsGiven (Some g) t → IsGiven (Some g) (grow k t p)
some_given g (Start login) k p w =
    let s = start_sets k login p in
    subst (λ (x : Sets). (y : Sets) × IsEarlier (ends_with_ok (grow k (Start login) p)) y x × (g ≡ groups y) × FitSets (ends_with_ok (grow k (Start login) p)) y) (sym s.0)
    (subst (λ (d : Bool). (y : Sets) × IsEarlier d y (sets_of (Start login)) × (g ≡ groups y) × FitSets d y) (sym s.1) w)
some_given g (Queried terms c sets) k p w = (w.0, ((let one : Packet = record { kind = k; payload = p } in one) ∷ w.1.0, ap (λ z. grow_sets (deprecates_eof terms.kept) k z p) w.1.1), w.2, w.3)
some_given g _ k p w = w

pub given_on : (o : Option (List Group)) (t : Talk) (k : Kind) (p : List ℕ) → IsGiven o t → IsGiven o (grow k t p)
given_on None t k p w = tt
given_on (Some g) t k p w = some_given g t k p w

-- an ERR ends its exchange
error_over : (terms : Terms) (c : List ℕ) (x : Sets) (d : Bool) (p : List ℕ) → is_over (Queried terms c (grow_sets d kinds.Failed x p)) ≡ true
error_over terms c (NoSets asking) d p = refl
error_over terms c _ d p = refl

pub failed_over : (t : Talk) (p : List ℕ) → is_over (grow kinds.Failed t p) ≡ true
failed_over (Queried terms c sets) p = error_over terms c sets (deprecates_eof terms.kept) p
failed_over _ p = refl
