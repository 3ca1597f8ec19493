-- How the items for the dials of a world in memory change.
use Rattle.std.proofs.Common.{ℕ, ◌≡◌, ◌≢◌, ◌<◌, ◌≤◌, ◌==◌, suc, List, [], ◌∷◌, length, get_or, remove, Bool, true, false, if◌then◌else◌, refl, ap, arith}
use Rattle.std.proofs.lemmas.Bool.Decides.{nat_tests}
use Rattle.my_link.specs.declared.mem_world.dials.PlannedDial.{PlannedDial}
use Rattle.my_link.specs.MemDials.{dials_at, dial_place}

-- with no place no item is there
pub no_dials_at : (n : ℕ) (ds : List PlannedDial) → length ds ≤ dial_place n ds → dials_at n ds ≡ []
no_dials_at n [] h = refl
no_dials_at n (d ∷ ds) h = by_test (d.number == n) refl (no_dials_at n ds)
  where
    by_test : (t : Bool) → (d.number == n) ≡ t → (length ds ≤ dial_place n ds → dials_at n ds ≡ []) → dials_at n (d ∷ ds) ≡ []
    by_test true e more = absurd (let k : length (d ∷ ds) ≤ dial_place n (d ∷ ds) = h in let z : dial_place n (d ∷ ds) ≡ 0 = rw e refl in omega (arith, k, z))
    by_test false e more = rw e (more (let k : length (d ∷ ds) ≤ dial_place n (d ∷ ds) = h in let z : dial_place n (d ∷ ds) ≡ suc (dial_place n ds) = rw e refl in omega (arith, k, z)))

-- the item at the place is the first one
pub first_dial_at : (n : ℕ) (ds : List PlannedDial) (z : PlannedDial) → dial_place n ds < length ds → dials_at n ds ≡ (get_or ds (dial_place n ds) z).item ∷ dials_at n (remove ds (dial_place n ds))
first_dial_at n [] z h = absurd (omega arith)
first_dial_at n (d ∷ ds) z h = by_test (d.number == n) refl (first_dial_at n ds z)
  where
    by_test : (t : Bool) → (d.number == n) ≡ t → (dial_place n ds < length ds → dials_at n ds ≡ (get_or ds (dial_place n ds) z).item ∷ dials_at n (remove ds (dial_place n ds))) → dials_at n (d ∷ ds) ≡ (get_or (d ∷ ds) (dial_place n (d ∷ ds)) z).item ∷ dials_at n (remove (d ∷ ds) (dial_place n (d ∷ ds)))
    by_test true e more = rw e refl
    by_test false e more = rw e (rw e (more (let k : dial_place n (d ∷ ds) < length (d ∷ ds) = h in let y : dial_place n (d ∷ ds) ≡ suc (dial_place n ds) = rw e refl in omega (arith, k, y))))

-- the other numbers' items stay
pub other_dials_at : (n m : ℕ) (ds : List PlannedDial) → m ≢ n → dial_place n ds < length ds → dials_at m (remove ds (dial_place n ds)) ≡ dials_at m ds
other_dials_at n m [] apart h = absurd (omega arith)
other_dials_at n m (d ∷ ds) apart h = by_test (d.number == n) refl (other_dials_at n m ds apart)
  where
    by_test : (t : Bool) → (d.number == n) ≡ t → (dial_place n ds < length ds → dials_at m (remove ds (dial_place n ds)) ≡ dials_at m ds) → dials_at m (remove (d ∷ ds) (dial_place n (d ∷ ds))) ≡ dials_at m (d ∷ ds)
    by_test true e more = let differs : (d.number == m) ≡ false = grind (arith, nat_tests) in rw (e, differs) refl
    by_test false e more = rw e (ap (λ is. if d.number == m then d.item ∷ is else is) (more (let k : dial_place n (d ∷ ds) < length (d ∷ ds) = h in let y : dial_place n (d ∷ ds) ≡ suc (dial_place n ds) = rw e refl in omega (arith, k, y))))
