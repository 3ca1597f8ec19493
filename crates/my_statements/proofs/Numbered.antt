-- The statements at their numbers, and the list of them.
use Rattle.std.proofs.Common.{◌≡◌, ℕ, zero, suc, true, false, cond, Some, None, List, [], ◌∷◌, refl, ap, map, nat_eq}
use Rattle.std.specs.Prelude.{take}
use Rattle.std.specs.Option.{option_map, option_map_or}
use Rattle.std.specs.List.{find}
use Rattle.std.specs.Map.{lookup, lookup_entry, remove_entry}
use Rattle.lru.specs.LruCache.{promoted}
use Rattle.my_frame.specs.Lists.{without}
use Rattle.my_statements.specs.Cache.{Held, has_id, in_front}
use Rattle.my_statements.specs.Indexed.{at_numbers}

pub lookup-numbered : (n : ℕ) (hs : List Held) → lookup (nat_eq n) (at_numbers hs) ≡ find (has_id n) hs
lookup-numbered n [] = refl
lookup-numbered n (h ∷ hs) = ap (λ o. cond (has_id n h) (Some h) o) (lookup-numbered n hs)

pub entry-numbered : (n : ℕ) (hs : List Held) → lookup_entry (nat_eq n) (at_numbers hs) ≡ option_map (λ h. (h.stmt.id, h)) (find (has_id n) hs)
entry-numbered n [] = refl
entry-numbered n (h ∷ hs) =
    elim (has_id n h) as (λ b. cond b (Some (h.stmt.id, h)) (lookup_entry (nat_eq n) (at_numbers hs)) ≡ option_map (λ g. (g.stmt.id, g)) (cond b (Some h) (find (has_id n) hs))) [
      | true ↦ refl
      | false ↦ entry-numbered n hs
    ]

pub remove-numbered : (n : ℕ) (hs : List Held) → remove_entry (nat_eq n) (at_numbers hs) ≡ at_numbers (without (has_id n) hs)
remove-numbered n [] = refl
remove-numbered n (h ∷ hs) =
    elim (has_id n h) as (λ b. cond b (at_numbers hs) ((h.stmt.id, h) ∷ remove_entry (nat_eq n) (at_numbers hs)) ≡ at_numbers (cond b hs (h ∷ without (has_id n) hs))) [
      | true ↦ refl
      | false ↦ ap (λ es. (h.stmt.id, h) ∷ es) (remove-numbered n hs)
    ]

pub values-numbered : (hs : List Held) → map (λ e. e.1) (at_numbers hs) ≡ hs
values-numbered [] = refl
values-numbered (h ∷ hs) = ap (λ gs. h ∷ gs) (values-numbered hs)

pub promoted-numbered : (n : ℕ) (hs : List Held) → promoted (nat_eq n) (at_numbers hs) ≡ at_numbers (in_front (has_id n) hs)
promoted-numbered n hs =
    rw (entry-numbered n hs) (rw (remove-numbered n hs)
    (elim (find (has_id n) hs) as (λ o. option_map_or (λ e. e ∷ at_numbers (without (has_id n) hs)) (option_map (λ h. (h.stmt.id, h)) o) (at_numbers hs) ≡ at_numbers (option_map_or (λ h. h ∷ without (has_id n) hs) o hs)) [
      | None ↦ refl
      | Some h ↦ refl
    ]))

pub take-numbered : (n : ℕ) (hs : List Held) → take n (at_numbers hs) ≡ at_numbers (take n hs)
take-numbered zero hs = refl
take-numbered (suc n) [] = refl
take-numbered (suc n) (h ∷ hs) = ap (λ es. (h.stmt.id, h) ∷ es) (take-numbered n hs)
