-- Columns that are put in front of those that are known.
use Rattle.std.proofs.Common.{◌≡◌, ℕ, zero, suc, ◌-◌, ◌≤◌, ◌<◌, Bool, true, false, cond, Option, Some, None, Result, Ok, Err, OnOk, OnErr, List, [], ◌∷◌, refl, sym, ap, ◌∙◌, length, take, take_all, arith, subst, nat_eq}
use Rattle.std.specs.Option.{option_map_or}
use Rattle.std.specs.Map.{lookup_entry, remove_entry}
use Rattle.std.proofs.lemmas.Bool.Decides.{nat_tests}
use Rattle.std.proofs.lemmas.List.{length-take}
use Rattle.lru.specs.LruCache.{LruCache, lru_cache, put_entries}
use Rattle.lru.proofs.CallerLemmas.{Contains-lookup_entry}
use Rattle.my_frame.specs.declared.limits.TheConstants.{MOST_STATEMENTS}
use Rattle.my_reply.specs.declared.column.Column.{Column}
use Rattle.my_statements.specs.Known.{known_put}

abbrev Entries : Type 0
Entries = List (ℕ × List Column)

none-removed : (test : ℕ → Bool) (es : Entries) → lookup_entry test es ≡ None → remove_entry test es ≡ es
none-removed test [] e = refl
none-removed test (x ∷ es) e =
    elim (test x.0) as (λ b. cond b (Some x) (lookup_entry test es) ≡ None → cond b es (x ∷ remove_entry test es) ≡ x ∷ es) [
      | true ↦ λ h. absurd (cc)
      | false ↦ λ h. ap (λ ys. x ∷ ys) (none-removed test es h)
    ] e

one-removed : (test : ℕ → Bool) (es : Entries) (y : ℕ × List Column) → lookup_entry test es ≡ Some y → suc (length (remove_entry test es)) ≤ length es
one-removed test [] y e = absurd (cc)
one-removed test (x ∷ es) y e =
    elim (test x.0) as (λ b. cond b (Some x) (lookup_entry test es) ≡ Some y → suc (length (cond b es (x ∷ remove_entry test es))) ≤ suc (length es)) [
      | true ↦ λ h. omega arith
      | false ↦ λ h. omega (arith, one-removed test es y h)
    ] e

first-taken : (n : ℕ) (x : ℕ × List Column) (es : Entries) → 0 < n → take n (x ∷ es) ≡ x ∷ take (n - 1) es
first-taken zero x es some = absurd (omega (arith, some))
first-taken (suc n) x es some = let less : n ≡ suc n - 1 = omega arith in ap (λ m. x ∷ take m es) less

put-first : (id : ℕ) (columns : List Column) (es : Entries) → known_put id columns es ≡ (id, columns) ∷ take (MOST_STATEMENTS - 1) (remove_entry (nat_eq id) es)
put-first id columns es = first-taken MOST_STATEMENTS (id, columns) (remove_entry (nat_eq id) es) (omega arith)

same-key : (id : ℕ) (es : Entries) (y : ℕ × List Column) → lookup_entry (nat_eq id) es ≡ Some y → y.0 ≡ id
same-key id es y e = let t = (Contains-lookup_entry (nat_eq id) es y e).1 in grind (arith, nat_tests)

put-by : (id : ℕ) (columns : List Column) (es : Entries) (o : Option (ℕ × List Column)) → lookup_entry (nat_eq id) es ≡ o → length es ≤ MOST_STATEMENTS
    → option_map_or (λ e. (e.0, columns) ∷ remove_entry (nat_eq id) es) o ((id, columns) ∷ take (MOST_STATEMENTS - 1) es) ≡ (id, columns) ∷ take (MOST_STATEMENTS - 1) (remove_entry (nat_eq id) es)
put-by id columns es None e few = ap (λ ys. (id, columns) ∷ take (MOST_STATEMENTS - 1) ys) (sym (none-removed (nat_eq id) es e))
put-by id columns es (Some y) e few =
    ap (λ n. (n, columns) ∷ remove_entry (nat_eq id) es) (same-key id es y e)
    ∙ ap (λ ys. (id, columns) ∷ ys) (sym (take_all (MOST_STATEMENTS - 1) (remove_entry (nat_eq id) es) (omega (arith, one-removed (nat_eq id) es y e, few))))

-- what a put makes of the pairs
pub put-is : (id : ℕ) (columns : List Column) (c : LruCache ℕ (List Column)) → c.cap ≡ MOST_STATEMENTS → length c.entries ≤ MOST_STATEMENTS
    → put_entries nat_eq c id columns ≡ known_put id columns c.entries
put-is id columns c cap few =
    ap (λ n. option_map_or (λ e. (e.0, columns) ∷ remove_entry (nat_eq id) c.entries) (lookup_entry (nat_eq id) c.entries) ((id, columns) ∷ take (n - 1) c.entries)) cap
    ∙ put-by id columns c.entries (lookup_entry (nat_eq id) c.entries) refl few
    ∙ sym (put-first id columns c.entries)

few-taken : (n : ℕ) (es : Entries) → length (take n es) ≤ n
few-taken n es = omega (arith, length-take n es)

pub put-few : (id : ℕ) (columns : List Column) (es : Entries) → length (known_put id columns es) ≤ MOST_STATEMENTS
put-few id columns es = few-taken MOST_STATEMENTS ((id, columns) ∷ remove_entry (nat_eq id) es)

-- what holds of all that are known holds after a put, also out of memory
pub put-kept : {X E : Type 0} (r : Result X E) (id : ℕ) (columns : List Column) (new old : LruCache ℕ (List Column)) → OnOk r (new ≡ lru_cache (put_entries nat_eq old id columns) old.cap) → OnErr r (new ≡ old)
    → (old.cap ≡ MOST_STATEMENTS) × (length old.entries ≤ MOST_STATEMENTS) → (new.cap ≡ MOST_STATEMENTS) × (length new.entries ≤ MOST_STATEMENTS)
put-kept (Ok x) id columns new old ok err i =
    subst (λ c. (c.cap ≡ MOST_STATEMENTS) × (length c.entries ≤ MOST_STATEMENTS)) (sym ok)
    (i.0, subst (λ es. length es ≤ MOST_STATEMENTS) (sym (put-is id columns old i.0 i.1)) (put-few id columns old.entries))
put-kept (Err x) id columns new old ok err i = subst (λ c. (c.cap ≡ MOST_STATEMENTS) × (length c.entries ≤ MOST_STATEMENTS)) (sym err) i
