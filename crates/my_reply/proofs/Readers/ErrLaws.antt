-- The packet of a failed command, as a relation and as what is read.
use Rattle.std.proofs.Common.{◌≡◌, ◌≢◌, ◌⊎◌, inl, inr, ℕ, Bool, true, false, ◌&&◌, not, List, [], ◌∷◌, eqb, codes, Some, refl, sym, subst, arith}
use Rattle.std.proofs.lemmas.Bool.Decides.{nat_tests}
use Rattle.std.specs.Str.Lossy.{utf8_lossy}
use Rattle.my_reply.specs.declared.err.ErrPacket.{ErrPacket}
use Rattle.my_frame.specs.Numbers.{bytes_at, head_at, number_at}
use Rattle.my_reply.specs.ErrPacket.{HasState, HasNoState, IsErr, told_at, err_at}
use Rattle.my_frame.proofs.NumberLaws.{bind_then, chosen, same_pair, head_found, head_again, bytes_found, bytes_again, number_found, number_again}

told_found : (before : Bool) (left state message : List ℕ) → told_at before left ≡ Some (state, message) → HasState before left state message ⊎ HasNoState before left state message
told_found before [] state message e =
    let s = same_pair _ _ e in
    inr (record { unmarked = inr (λ rest p. absurd cc); general = sym s.0; all = sym s.1 })
told_found true (mark ∷ left) state message e =
    elim (chosen (eqb mark 35 && false) (bytes_at 5 left) (Some (codes "HY000", mark ∷ left)) (Some (state, message)) e) [
      | inl w ↦ absurd (let t = w.0 in grind (arith, nat_tests))
      | inr w ↦ let s = same_pair _ _ w.1 in inr (record { unmarked = inl refl; general = sym s.0; all = sym s.1 })
    ]
told_found false (mark ∷ left) state message e =
    elim (chosen (eqb mark 35 && true) (bytes_at 5 left) (Some (codes "HY000", mark ∷ left)) (Some (state, message)) e) [
      | inl w ↦
          let m : mark ≡ 35 = let t = w.0 in grind (arith, nat_tests) in
          inl (record { answered = refl; after_mark = left; marked = cc; follows = bytes_found 5 left state message w.1 })
      | inr w ↦
          let s = same_pair _ _ w.1 in
          let m : mark ≢ 35 = let t = w.0 in grind (arith, nat_tests) in
          inr (record { unmarked = inr (λ rest p. m cc); general = sym s.0; all = sym s.1 })
    ]

state_again : (before : Bool) (left state message : List ℕ) → HasState before left state message → told_at before left ≡ Some (state, message)
state_again before left state message w = rw (w.marked, w.answered) (bytes_again 5 w.after_mark state message w.follows)

none_again : (before : Bool) (left : List ℕ) → (before ≡ true) ⊎ ((rest : List ℕ) → left ≢ 35 ∷ rest) → told_at before left ≡ Some (codes "HY000", left)
none_again before [] h = refl
none_again before (mark ∷ left) h =
    let b : (eqb mark 35 && not before) ≡ false =
    elim h [
      | inl t ↦ grind (arith, nat_tests)
      | inr t ↦ let m : mark ≢ 35 = λ p. t left cc in grind (arith, nat_tests)
    ] in
    rw b refl

told_again : (before : Bool) (left state message : List ℕ) → HasState before left state message ⊎ HasNoState before left state message → told_at before left ≡ Some (state, message)
told_again before left state message h =
    elim h [
      | inl w ↦ state_again before left state message w
      | inr w ↦ rw (w.general, w.all) (none_again before left w.unmarked)
    ]

pub err_found : (before : Bool) (payload : List ℕ) (err : ErrPacket) → err_at before payload ≡ Some err → IsErr before payload err
err_found before payload err e =
    bind_then (head_at 0xFF payload) _ err e (λ a ea na.
    bind_then (number_at 2 a) _ err na (λ b eb nb.
    bind_then (told_at before b.1) _ err nb (λ c ec nc.
    let fields : ErrPacket = record { code = b.0; state = c.0; message = utf8_lossy c.1 } in
    let same : fields ≡ err = cc in
    subst (λ o. IsErr before payload o) {x = fields} same (record {
      after_head = a;
      left = b.1;
      message = c.1;
      spelled = head_found 0xFF payload a ea;
      code = number_found 2 a b.0 b.1 eb;
      told = told_found before b.1 c.0 c.1 ec;
      text = refl;
    }))))

pub err_again : (before : Bool) (payload : List ℕ) (err : ErrPacket) → IsErr before payload err → err_at before payload ≡ Some err
err_again before payload err w =
    rw (head_again 0xFF payload w.after_head w.spelled, number_again 2 w.after_head err.code w.left w.code, told_again before w.left err.state w.message w.told, ← w.text) refl
