-- How a link's plan is used up, move by move.
use Rattle.std.proofs.Common.{ℕ, ◌≡◌, ◌+◌, ◌-◌, ◌==◌, List, [], ◌∷◌, ◌++◌, length, Option, Some, None, Bool, true, false, if◌then◌else◌, refl, sym, ap, ◌∙◌, subst, append_assoc, arith}
use Rattle.std.proofs.lemmas.List.{append-nil}
use Rattle.my_frame.specs.Outside.{Comes}
use Rattle.my_link.specs.declared.link.ReadItem.{ReadItem}
use Rattle.my_link.specs.declared.link.ReadItem.TheVariants.{Bytes, Turn, Wait, Fail, End}
use Rattle.my_link.specs.declared.link.WriteItem.{WriteItem}
use Rattle.my_link.specs.declared.link.WriteItem.TheVariants as puts
use Rattle.my_link.specs.Link.{Told, Gave, put_back, after_hold, after_fault, after_end, after_write, taken_of, after_taken, after_write_hold, after_write_fault}
use Rattle.my_link.specs.Looks.{Looks}
use Rattle.my_link.specs.Moves.{Move, Received, Sent, Moves, Leads, received_by, sent_by, Stop, NoStop, ReadHold, WriteHold, ReadFault, WriteFault, LinkEnd, StopsAt, faults_at, IsUsed, Receives, Sends}
use Rattle.my_link.specs.Spent.{spelled, fails_in, write_fails_in, IsLeft, Whole, Part, Spent, ReadsSpent, FaultsSpent, HasGot, IsSpent}

-- unchanged, where it is told
told_same : {I : Type 0} (x y : Option (List I)) → y ≡ x → Told x y (λ is js. js ≡ is)
told_same None y e = e
told_same {I} (Some is) y e = subst (λ (v : Option (List I)). Told (Some is) v (λ is js. js ≡ is)) (sym e) refl

reads_on : (plan x y : Option (List ReadItem)) (taken taken' : List ℕ) (R : List ReadItem → List ReadItem → Type 0) → Told x y R → ((p is js : List ReadItem) → R is js → Spent p is taken → Spent p js taken') → ReadsSpent plan x taken → ReadsSpent plan y taken'
reads_on None x y taken taken' R t go s = tt
reads_on (Some p) None y taken taken' R t go s = absurd s
reads_on (Some p) (Some is) None taken taken' R t go s = absurd t
reads_on (Some p) (Some is) (Some js) taken taken' R t go s = go p is js t s

faults_on : (plan x y : Option (List ReadItem)) (rules ws vs : Option (List WriteItem)) (f k : ℕ) (R : List ReadItem → List ReadItem → Type 0) (S : List WriteItem → List WriteItem → Type 0) → Told x y R → Told ws vs S → ((is js : List ReadItem) (us vs : List WriteItem) → R is js → S us vs → fails_in is + write_fails_in us ≡ k + (fails_in js + write_fails_in vs)) → FaultsSpent plan x rules ws f → FaultsSpent plan y rules vs (f + k)
faults_on None x y rules ws vs f k R S t u go s = tt
faults_on (Some p) x y None ws vs f k R S t u go s = tt
faults_on (Some p) None y (Some rs) ws vs f k R S t u go s = absurd s
faults_on (Some p) (Some is) None (Some rs) ws vs f k R S t u go s = absurd t
faults_on (Some p) (Some is) (Some js) (Some rs) None vs f k R S t u go s = absurd s
faults_on (Some p) (Some is) (Some js) (Some rs) (Some us) None f k R S t u go s = absurd u
faults_on (Some p) (Some is) (Some js) (Some rs) (Some us) (Some vs) f k R S t u go s = omega (arith, s, go is js us vs t u)

-- some items are there
abbrev items_in : {I : Type 0} → Option (List I) → List I
items_in None = []
items_in (Some is) = is

-- what follows the first item
abbrev after_first : List ReadItem → List ReadItem
after_first [] = []
after_first (i ∷ is) = is

-- the bytes of the first item
abbrev first_bytes : List ReadItem → List ℕ
first_bytes (Bytes bytes ∷ more) = bytes
first_bytes is = []

-- the first item was used
left_after : (p js : List ReadItem) (i : ReadItem) → IsLeft p (i ∷ js) → IsLeft p js
left_after p js i (Whole used e) = Whole (used ++ i ∷ []) (e ∙ sym (append_assoc used (i ∷ []) js))
left_after p js i (Part used more read rest e f) =
    let same : js ≡ more = ap after_first f in
    Whole (used ++ Bytes (read ++ rest) ∷ []) (e ∙ ap (λ (xs : List ReadItem). used ++ Bytes (read ++ rest) ∷ xs) (sym same) ∙ sym (append_assoc used (Bytes (read ++ rest) ∷ []) js))

-- the first item was read in part
left_inside : (p more : List ReadItem) (bytes rest : List ℕ) → IsLeft p (Bytes (bytes ++ rest) ∷ more) → IsLeft p (Bytes rest ∷ more)
left_inside p more bytes rest (Whole used e) = Part used more bytes rest e refl
left_inside p more bytes rest (Part used others read left e f) =
    let inside : left ≡ bytes ++ rest = sym (ap first_bytes f) in
    let following : others ≡ more = sym (ap after_first f) in
    Part used more (read ++ bytes) rest (e ∙ ap (λ (xs : List ReadItem). used ++ Bytes (read ++ left) ∷ xs) following ∙ ap (λ (bs : List ℕ). used ++ Bytes bs ∷ more) (ap (λ (bs : List ℕ). read ++ bs) inside ∙ sym (append_assoc read bytes rest))) refl

left_put : (p more : List ReadItem) (bytes rest : List ℕ) → IsLeft p (Bytes (bytes ++ rest) ∷ more) → IsLeft p (put_back rest more)
left_put p more bytes [] l = left_after p more (Bytes (bytes ++ [])) l
left_put p more bytes (b ∷ rest) l = left_inside p more bytes (b ∷ rest) l

-- these items say the same of bytes and faults
record Alike (is js : List ReadItem) : Type 0 where
  left : (p : List ReadItem) → IsLeft p is → IsLeft p js
  spells : spelled js ≡ spelled is
  fails : fails_in js ≡ fails_in is

met : (is : List ReadItem) → Alike is (after_write is)
met [] = record { left = λ p l. l; spells = refl; fails = refl }
met (Bytes bytes ∷ more) = record { left = λ p l. l; spells = refl; fails = refl }
met (Turn ∷ more) = record { left = λ p l. left_after p more Turn l; spells = refl; fails = refl }
met (Wait ∷ more) = record { left = λ p l. l; spells = refl; fails = refl }
met (Fail ∷ more) = record { left = λ p l. l; spells = refl; fails = refl }
met (End ∷ more) = record { left = λ p l. l; spells = refl; fails = refl }

-- a read that isn't ready
held : (is js : List ReadItem) → after_hold is ≡ Some js → Alike is js
held [] js e = subst (Alike []) (ap items_in e) (record { left = λ p l. l; spells = refl; fails = refl })
held (Bytes bytes ∷ more) js e = absurd (let k : None ≡ Some js = e in cc)
held (Turn ∷ more) js e = subst (Alike (Turn ∷ more)) (ap items_in e) (record { left = λ p l. l; spells = refl; fails = refl })
held (Wait ∷ more) js e = subst (Alike (Wait ∷ more)) (ap items_in e) (record { left = λ p l. left_after p more Wait l; spells = refl; fails = refl })
held (Fail ∷ more) js e = absurd (let k : None ≡ Some js = e in cc)
held (End ∷ more) js e = absurd (let k : None ≡ Some js = e in cc)

-- a read that returns the end
ended : (is js : List ReadItem) → after_end is ≡ Some js → js ≡ is
ended [] js e = absurd (let k : None ≡ Some js = e in cc)
ended (Bytes bytes ∷ more) js e = absurd (let k : None ≡ Some js = e in cc)
ended (Turn ∷ more) js e = absurd (let k : None ≡ Some js = e in cc)
ended (Wait ∷ more) js e = absurd (let k : None ≡ Some js = e in cc)
ended (Fail ∷ more) js e = absurd (let k : None ≡ Some js = e in cc)
ended (End ∷ more) js e = sym (ap items_in e)

-- a read that fails
fail_at : (is js : List ReadItem) → after_fault is ≡ Some js → is ≡ Fail ∷ js
fail_at [] js e = absurd (let k : None ≡ Some js = e in cc)
fail_at (Bytes bytes ∷ more) js e = absurd (let k : None ≡ Some js = e in cc)
fail_at (Turn ∷ more) js e = absurd (let k : None ≡ Some js = e in cc)
fail_at (Wait ∷ more) js e = absurd (let k : None ≡ Some js = e in cc)
fail_at (Fail ∷ more) js e = ap (λ o. Fail ∷ items_in o) e
fail_at (End ∷ more) js e = absurd (let k : None ≡ Some js = e in cc)

alike_spent : (p is js : List ReadItem) (taken : List ℕ) → Alike is js → Spent p is taken → Spent p js taken
alike_spent p is js taken a s = record { left_is = a.left p s.left_is; bytes = s.bytes ∙ ap (λ bs. taken ++ bs) (sym a.spells) }

fault_spent : (p is js : List ReadItem) (taken : List ℕ) → after_fault is ≡ Some js → Spent p is taken → Spent p js taken
fault_spent p is js taken e s =
    let split : is ≡ Fail ∷ js = fail_at is js e in
    record { left_is = left_after p js Fail (subst (IsLeft p) split s.left_is); bytes = s.bytes ∙ ap (λ (xs : List ReadItem). taken ++ spelled xs) split }

-- writes
taken_fails : (n : ℕ) (ws : List WriteItem) → write_fails_in (after_taken n ws) ≡ write_fails_in ws
taken_fails n [] = refl
taken_fails n (puts.Accept k ∷ more) = by_test (k - n == 0)
  where
    by_test : (t : Bool) → write_fails_in (if t then more else puts.Accept (k - n) ∷ more) ≡ write_fails_in more
    by_test true = refl
    by_test false = refl
taken_fails n (puts.Wait ∷ more) = refl
taken_fails n (puts.Fail ∷ more) = refl

held_fails : (us vs : List WriteItem) → after_write_hold us ≡ Some vs → write_fails_in us ≡ write_fails_in vs
held_fails [] vs e = absurd (let k : None ≡ Some vs = e in cc)
held_fails (puts.Accept n ∷ more) vs e = absurd (let k : None ≡ Some vs = e in cc)
held_fails (puts.Wait ∷ more) vs e = ap (λ o. write_fails_in (items_in o)) e
held_fails (puts.Fail ∷ more) vs e = absurd (let k : None ≡ Some vs = e in cc)

failed_fails : (us vs : List WriteItem) → after_write_fault us ≡ Some vs → write_fails_in us ≡ 1 + write_fails_in vs
failed_fails [] vs e = absurd (let k : None ≡ Some vs = e in cc)
failed_fails (puts.Accept n ∷ more) vs e = absurd (let k : None ≡ Some vs = e in cc)
failed_fails (puts.Wait ∷ more) vs e = absurd (let k : None ≡ Some vs = e in cc)
failed_fails (puts.Fail ∷ more) vs e = ap (λ o. 1 + write_fails_in (items_in o)) e

-- a read gave bytes
put_spells : (rest : List ℕ) (more : List ReadItem) → spelled (put_back rest more) ≡ rest ++ spelled more
put_spells [] more = refl
put_spells (b ∷ bytes) more = refl

put_fails : (rest : List ℕ) (more : List ReadItem) → fails_in (put_back rest more) ≡ fails_in more
put_fails [] more = refl
put_fails (b ∷ bytes) more = refl

gave_spent : (p is js : List ReadItem) (taken bytes : List ℕ) → Gave bytes is js → Spent p is taken → Spent p js (taken ++ bytes)
gave_spent p is js taken bytes g s = record {
  left_is = subst (IsLeft p) (sym g.stands) (left_put p g.more bytes g.rest (subst (IsLeft p) g.stood s.left_is));
  bytes = s.bytes ∙ ap (λ (xs : List ReadItem). taken ++ spelled xs) g.stood ∙ ap (λ xs. taken ++ xs) (append_assoc bytes g.rest (spelled g.more)) ∙ sym (append_assoc taken bytes (g.rest ++ spelled g.more)) ∙ ap (λ xs. (taken ++ bytes) ++ xs) (sym (put_spells g.rest g.more) ∙ ap spelled (sym g.stands));
}

gave_fails : (bytes : List ℕ) (is js : List ReadItem) → Gave bytes is js → fails_in is ≡ fails_in js
gave_fails bytes is js g = ap fails_in g.stood ∙ sym (put_fails g.rest g.more) ∙ ap fails_in (sym g.stands)

-- the bytes that the link was sent
got_on : (x y : Option (List ℕ)) (sent bytes : List ℕ) → Comes x bytes y → HasGot x sent → HasGot y (sent ++ bytes)
got_on None None sent bytes c h = tt
got_on None (Some now) sent bytes c h = absurd c
got_on (Some old) None sent bytes c h = absurd c
got_on (Some old) (Some now) sent bytes c h = c ∙ ap (λ xs. xs ++ bytes) h

module _ (plan : Option (List ReadItem)) (rules : Option (List WriteItem)) where
  receives_spent : (x y : Looks) (sent received bytes : List ℕ) (f : ℕ) → Receives bytes x y → IsSpent plan rules x sent received f → IsSpent plan rules y sent (received ++ bytes) (f + 0)
  receives_spent x y sent received bytes f r s = record {
    got = subst (λ g. HasGot g sent) (sym r.got) s.got;
    reads = reads_on plan x.items y.items received (received ++ bytes) (Gave bytes) r.items (λ p is js g k. gave_spent p is js received bytes g k) s.reads;
    failed = faults_on plan x.items y.items rules x.writes y.writes f 0 (Gave bytes) (λ us vs. vs ≡ us) r.items (told_same x.writes y.writes r.writes) (λ is js us vs g h. omega (arith, gave_fails bytes is js g, ap write_fails_in h)) s.failed;
  }

  sends_spent : (x y : Looks) (sent received bytes : List ℕ) (offered f : ℕ) → Sends offered bytes x y → IsSpent plan rules x sent received f → IsSpent plan rules y (sent ++ bytes) received (f + 0)
  sends_spent x y sent received bytes offered f r s = record {
    got = got_on x.got y.got sent bytes r.got s.got;
    reads = reads_on plan x.items y.items received received (λ is js. js ≡ after_write is) r.items (λ p is js g k. alike_spent p is js received (subst (Alike is) (sym g) (met is)) k) s.reads;
    failed = faults_on plan x.items y.items rules x.writes y.writes f 0 (λ is js. js ≡ after_write is) (λ us vs. (taken_of offered us ≡ Some (length bytes)) × (vs ≡ after_taken (length bytes) us)) r.items r.writes (λ is js us vs g h. omega (arith, ap fails_in g, (met is).fails, ap write_fails_in h.1, taken_fails (length bytes) us)) s.failed;
  }

  move_spent : (m : Move) (x y : Looks) (sent received : List ℕ) (ms : List Move) (f : ℕ) → Moves m x y → IsSpent plan rules x (sent ++ sent_by ms) (received ++ received_by ms) f → IsSpent plan rules y (sent ++ sent_by (m ∷ ms)) (received ++ received_by (m ∷ ms)) f
  move_spent (Received bytes) x y sent received ms f r s =
      let same : f + 0 ≡ f = omega arith in
      subst (λ (n : ℕ). IsSpent plan rules y (sent ++ sent_by ms) (received ++ (received_by ms ++ bytes)) n) same
      (subst (λ (bs : List ℕ). IsSpent plan rules y (sent ++ sent_by ms) bs (f + 0)) (append_assoc received (received_by ms) bytes)
      (receives_spent x y (sent ++ sent_by ms) (received ++ received_by ms) bytes f r.1 s))
  move_spent (Sent offered bytes) x y sent received ms f r s =
      let same : f + 0 ≡ f = omega arith in
      subst (λ (n : ℕ). IsSpent plan rules y (sent ++ (sent_by ms ++ bytes)) (received ++ received_by ms) n) same
      (subst (λ (bs : List ℕ). IsSpent plan rules y bs (received ++ received_by ms) (f + 0)) (append_assoc sent (sent_by ms) bytes)
      (sends_spent x y (sent ++ sent_by ms) (received ++ received_by ms) bytes offered f r.1 s))

  pub leads_spent : (ms : List Move) (x y : Looks) (sent received : List ℕ) (f : ℕ) → Leads ms x y → IsSpent plan rules x sent received f → IsSpent plan rules y (sent ++ sent_by ms) (received ++ received_by ms) f
  leads_spent [] x y sent received f e s =
      subst (λ (bs : List ℕ). IsSpent plan rules y bs (received ++ []) f) (sym (append-nil sent))
      (subst (λ (bs : List ℕ). IsSpent plan rules y sent bs f) (sym (append-nil received))
      (subst (λ (z : Looks). IsSpent plan rules z sent received f) (sym e) s))
  leads_spent (m ∷ ms) x y sent received f w s = move_spent m w.0 y sent received ms f w.2 (leads_spent ms x w.0 sent received f w.1 s)

  -- what a use stopped at
  stops_spent : (stop : Stop) (x y : Looks) (sent received : List ℕ) (f : ℕ) → StopsAt stop x y → IsSpent plan rules x sent received f → IsSpent plan rules y sent received (f + faults_at stop)
  stops_spent NoStop x y sent received f e s =
      let same : f + 0 ≡ f = omega arith in
      subst (λ (n : ℕ). IsSpent plan rules y sent received n) (sym same) (subst (λ (z : Looks). IsSpent plan rules z sent received f) (sym e) s)
  stops_spent ReadHold x y sent received f r s = record {
    got = subst (λ g. HasGot g sent) (sym r.got) s.got;
    reads = reads_on plan x.items y.items received received (λ is js. after_hold is ≡ Some js) r.items (λ p is js g k. alike_spent p is js received (held is js g) k) s.reads;
    failed = faults_on plan x.items y.items rules x.writes y.writes f 0 (λ is js. after_hold is ≡ Some js) (λ us vs. vs ≡ us) r.items (told_same x.writes y.writes r.writes) (λ is js us vs g h. omega (arith, (held is js g).fails, ap write_fails_in h)) s.failed;
  }
  stops_spent WriteHold x y sent received f r s = record {
    got = subst (λ g. HasGot g sent) (sym r.got) s.got;
    reads = subst (λ (o : Option (List ReadItem)). ReadsSpent plan o received) (sym r.items) s.reads;
    failed = faults_on plan x.items y.items rules x.writes y.writes f 0 (λ is js. js ≡ is) (λ us vs. after_write_hold us ≡ Some vs) (told_same x.items y.items r.items) r.writes (λ is js us vs g h. omega (arith, ap fails_in g, held_fails us vs h)) s.failed;
  }
  stops_spent ReadFault x y sent received f r s = record {
    got = subst (λ g. HasGot g sent) (sym r.got) s.got;
    reads = reads_on plan x.items y.items received received (λ is js. after_fault is ≡ Some js) r.items (λ p is js g k. fault_spent p is js received g k) s.reads;
    failed = faults_on plan x.items y.items rules x.writes y.writes f 1 (λ is js. after_fault is ≡ Some js) (λ us vs. vs ≡ us) r.items (told_same x.writes y.writes r.writes) (λ is js us vs g h. omega (arith, ap fails_in (fail_at is js g), ap write_fails_in h)) s.failed;
  }
  stops_spent WriteFault x y sent received f r s = record {
    got = subst (λ g. HasGot g sent) (sym r.got) s.got;
    reads = subst (λ (o : Option (List ReadItem)). ReadsSpent plan o received) (sym r.items) s.reads;
    failed = faults_on plan x.items y.items rules x.writes y.writes f 1 (λ is js. js ≡ is) (λ us vs. after_write_fault us ≡ Some vs) (told_same x.items y.items r.items) r.writes (λ is js us vs g h. omega (arith, ap fails_in g, failed_fails us vs h)) s.failed;
  }
  stops_spent LinkEnd x y sent received f r s = record {
    got = subst (λ g. HasGot g sent) (sym r.got) s.got;
    reads = reads_on plan x.items y.items received received (λ is js. after_end is ≡ Some js) r.items (λ p is js g k. subst (λ (zs : List ReadItem). Spent p zs received) (sym (ended is js g)) k) s.reads;
    failed = faults_on plan x.items y.items rules x.writes y.writes f 0 (λ is js. after_end is ≡ Some js) (λ us vs. vs ≡ us) r.items (told_same x.writes y.writes r.writes) (λ is js us vs g h. omega (arith, ap fails_in (ended is js g), ap write_fails_in h)) s.failed;
  }

  -- a whole use
  pub used_spent : (x y : Looks) (sent received out in_bytes : List ℕ) (stop : Stop) (f : ℕ) → IsUsed x y out in_bytes stop → IsSpent plan rules x sent received f → IsSpent plan rules y (sent ++ out) (received ++ in_bytes) (f + faults_at stop)
  used_spent x y sent received out in_bytes stop f u s =
      subst (λ (bs : List ℕ). IsSpent plan rules y (sent ++ bs) (received ++ in_bytes) (f + faults_at stop)) u.sent_is
      (subst (λ (bs : List ℕ). IsSpent plan rules y (sent ++ sent_by u.moves) (received ++ bs) (f + faults_at stop)) u.received_is
      (stops_spent stop u.moved y (sent ++ sent_by u.moves) (received ++ received_by u.moves) f u.stops (leads_spent u.moves x u.moved sent received f u.leads s)))
