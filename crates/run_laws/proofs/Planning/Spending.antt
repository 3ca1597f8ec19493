-- What a use of a link takes from its plan.
use Rattle.std.proofs.Common.{ℕ, ◌≡◌, ◌⊎◌, ◌≤◌, ◌+◌, ◌-◌, ◌==◌, inl, inr, List, [], ◌∷◌, ◌++◌, length, Option, Some, None, Bool, true, false, if◌then◌else◌, refl, sym, ap, ◌∙◌, subst, append_assoc, arith, length-append}
use Rattle.std.proofs.lemmas.List.{append-nil}
use Rattle.my_link.specs.declared.link.ReadItem.{ReadItem}
use Rattle.my_link.specs.declared.link.ReadItem.TheVariants.{Bytes, Turn, Wait, Fail, End}
use Rattle.my_link.specs.declared.link.WriteItem.{WriteItem}
use Rattle.my_link.specs.declared.link.WriteItem.TheVariants as puts
use Rattle.my_link.specs.declared.met.Met.{Met}
use Rattle.my_link.specs.Link.{Told, Gave, put_back, after_hold, after_fault, after_end, after_write, taken_of, after_taken, after_write_hold, after_write_fault}
use Rattle.my_link.specs.Looks.{Looks}
use Rattle.my_link.specs.Moves.{Move, Received, Sent, Moves, Leads, received_by, Stop, NoStop, ReadHold, WriteHold, ReadFault, WriteFault, LinkEnd, StopsAt, faults_at, ends_at, IsUsed, IsMet, Receives, Sends, ReadHolds, WriteHolds, ReadFails, WriteFails, ReadEnds}
use Rattle.my_link.specs.Spent.{spelled, fails_in, write_fails_in}
use Rattle.my_run_judge.specs.declared.plan.left.Left.{Left}
use Rattle.my_run_judge.specs.Plan.Left.{EndPlanned, IsPlanned, after_met}
use Rattle.my_run_judge.specs.Plan.Planned.{before_end, has_end}

-- some items are there
abbrev items_in : {I : Type 0} → Option (List I) → List I
items_in None = []
items_in (Some is) = is

-- the items that a told link has, after a use too
record IsTold {I : Type 0} (y : Option (List I)) (R : List I → Type 0) : Type 0 where
  now : List I
  is : y ≡ Some now
  so : R now

told : {I : Type 0} (x y : Option (List I)) (R : List I → List I → Type 0) (is : List I) → x ≡ Some is → Told x y R → IsTold y (R is)
told None y R is e t = absurd (let k : None ≡ Some is = e in cc)
told (Some old) None R is e t = absurd t
told (Some old) (Some new) R is e t = record { now = new; is = refl; so = subst (λ xs. R xs new) (ap items_in e) t }

-- What is left of items that gave these bytes, after this many faults.
pub record Gives (is : List ReadItem) (ws : List WriteItem) (js : List ReadItem) (vs : List WriteItem) (came : List ℕ) (faults : ℕ)
    : Type 0 where
  pub bytes : spelled (before_end is) ≡ came ++ spelled (before_end js)
  pub faults_are : fails_in (before_end is) + write_fails_in ws ≡ faults + (fails_in (before_end js) + write_fails_in vs)
  pub ends : has_end js ≡ has_end is

gives_more : (is js ks : List ReadItem) (ws vs us : List WriteItem) (came more : List ℕ) (f g : ℕ) → Gives is ws js vs came f → Gives js vs ks us more g → Gives is ws ks us (came ++ more) (f + g)
gives_more is js ks ws vs us came more f g a b = record {
  bytes = a.bytes ∙ ap (λ (xs : List ℕ). came ++ xs) b.bytes ∙ sym (append_assoc came more (spelled (before_end ks)));
  faults_are = let x = a.faults_are in let y = b.faults_are in omega (arith, x, y);
  ends = b.ends ∙ a.ends;
}

-- reads
record Alike (is js : List ReadItem) (bytes : List ℕ) (faults : ℕ) : Type 0 where
  spells : spelled (before_end is) ≡ bytes ++ spelled (before_end js)
  fails : fails_in (before_end is) ≡ faults + fails_in (before_end js)
  ends : has_end js ≡ has_end is

itself : (is : List ReadItem) → Alike is is [] 0
itself is = record { spells = refl; fails = omega arith; ends = refl }

put : (rest : List ℕ) (more : List ReadItem) (bytes : List ℕ) → Alike (Bytes (bytes ++ rest) ∷ more) (put_back rest more) bytes 0
put [] more bytes = record { spells = ap (λ (xs : List ℕ). xs ++ spelled (before_end more)) (append-nil bytes); fails = omega arith; ends = refl }
put (b ∷ rest) more bytes = record { spells = append_assoc bytes (b ∷ rest) (spelled (before_end more)); fails = omega arith; ends = refl }

gave : (bytes : List ℕ) (is js : List ReadItem) → Gave bytes is js → Alike is js bytes 0
gave bytes is js g = subst (λ (xs : List ReadItem). Alike xs js bytes 0) (sym g.stood) (subst (λ (xs : List ReadItem). Alike (Bytes (bytes ++ g.rest) ∷ g.more) xs bytes 0) (sym g.stands) (put g.rest g.more bytes))

wrote : (is : List ReadItem) → Alike is (after_write is) [] 0
wrote [] = itself []
wrote (Bytes bytes ∷ more) = itself (Bytes bytes ∷ more)
wrote (Turn ∷ more) = record { spells = refl; fails = omega arith; ends = refl }
wrote (Wait ∷ more) = itself (Wait ∷ more)
wrote (Fail ∷ more) = itself (Fail ∷ more)
wrote (End ∷ more) = itself (End ∷ more)

held : (is js : List ReadItem) → after_hold is ≡ Some js → Alike is js [] 0
held [] js e = subst (λ (xs : List ReadItem). Alike [] xs [] 0) (ap items_in e) (itself [])
held (Bytes bytes ∷ more) js e = absurd (let k : None ≡ Some js = e in cc)
held (Turn ∷ more) js e = subst (λ (xs : List ReadItem). Alike (Turn ∷ more) xs [] 0) (ap items_in e) (itself (Turn ∷ more))
held (Wait ∷ more) js e = subst (λ (xs : List ReadItem). Alike (Wait ∷ more) xs [] 0) (ap items_in e) (record { spells = refl; fails = omega arith; ends = refl })
held (Fail ∷ more) js e = absurd (let k : None ≡ Some js = e in cc)
held (End ∷ more) js e = absurd (let k : None ≡ Some js = e in cc)

failed : (is js : List ReadItem) → after_fault is ≡ Some js → Alike is js [] 1
failed [] js e = absurd (let k : None ≡ Some js = e in cc)
failed (Bytes bytes ∷ more) js e = absurd (let k : None ≡ Some js = e in cc)
failed (Turn ∷ more) js e = absurd (let k : None ≡ Some js = e in cc)
failed (Wait ∷ more) js e = absurd (let k : None ≡ Some js = e in cc)
failed (Fail ∷ more) js e = subst (λ (xs : List ReadItem). Alike (Fail ∷ more) xs [] 1) (ap items_in e) (record { spells = refl; fails = refl; ends = refl })
failed (End ∷ more) js e = absurd (let k : None ≡ Some js = e in cc)

-- an end stands first, and stays there
record AtEnd (is js : List ReadItem) : Type 0 where
  same : js ≡ is
  over : spelled (before_end is) ≡ []
  ends : has_end is ≡ true

ended : (is js : List ReadItem) → after_end is ≡ Some js → AtEnd is js
ended [] js e = absurd (let k : None ≡ Some js = e in cc)
ended (Bytes bytes ∷ more) js e = absurd (let k : None ≡ Some js = e in cc)
ended (Turn ∷ more) js e = absurd (let k : None ≡ Some js = e in cc)
ended (Wait ∷ more) js e = absurd (let k : None ≡ Some js = e in cc)
ended (Fail ∷ more) js e = absurd (let k : None ≡ Some js = e in cc)
ended (End ∷ more) js e = record { same = sym (ap items_in e); over = refl; ends = refl }

-- writes
taken_fails : (n : ℕ) (ws : List WriteItem) → write_fails_in ws ≡ write_fails_in (after_taken n ws)
taken_fails n [] = refl
taken_fails n (puts.Accept k ∷ more) = by_test (k - n == 0)
  where
    by_test : (t : Bool) → write_fails_in more ≡ write_fails_in (if t then more else puts.Accept (k - n) ∷ more)
    by_test true = refl
    by_test false = refl
taken_fails n (puts.Wait ∷ more) = refl
taken_fails n (puts.Fail ∷ more) = refl

write_held : (us vs : List WriteItem) → after_write_hold us ≡ Some vs → write_fails_in us ≡ write_fails_in vs
write_held [] vs e = absurd (let k : None ≡ Some vs = e in cc)
write_held (puts.Accept n ∷ more) vs e = absurd (let k : None ≡ Some vs = e in cc)
write_held (puts.Wait ∷ more) vs e = ap (λ o. write_fails_in (items_in o)) e
write_held (puts.Fail ∷ more) vs e = absurd (let k : None ≡ Some vs = e in cc)

write_failed : (us vs : List WriteItem) → after_write_fault us ≡ Some vs → write_fails_in us ≡ 1 + write_fails_in vs
write_failed [] vs e = absurd (let k : None ≡ Some vs = e in cc)
write_failed (puts.Accept n ∷ more) vs e = absurd (let k : None ≡ Some vs = e in cc)
write_failed (puts.Wait ∷ more) vs e = absurd (let k : None ≡ Some vs = e in cc)
write_failed (puts.Fail ∷ more) vs e = ap (λ o. 1 + write_fails_in (items_in o)) e

gives : (is js : List ReadItem) (ws vs : List WriteItem) (came : List ℕ) (f g : ℕ) → Alike is js came f → write_fails_in ws ≡ g + write_fails_in vs → Gives is ws js vs came (f + g)
gives is js ws vs came f g a e = record { bytes = a.spells; faults_are = let x = a.fails in omega (arith, x, e); ends = a.ends }

-- a link with these items left
pub record Has (x : Looks) (is : List ReadItem) (ws : List WriteItem) : Type 0 where
  pub items : x.items ≡ Some is
  pub writes : x.writes ≡ Some ws

-- after something that took these bytes, and this many faults
pub record HasLeft (y : Looks) (is : List ReadItem) (ws : List WriteItem) (came : List ℕ) (faults : ℕ) : Type 0 where
  pub reads : List ReadItem
  pub puts : List WriteItem
  pub has : Has y reads puts
  pub gives : Gives is ws reads puts came faults

module _ (x y : Looks) (is : List ReadItem) (ws : List WriteItem) (has : Has x is ws) where
  received : (bytes : List ℕ) → Receives bytes x y → HasLeft y is ws bytes 0
  received bytes r =
      let js = told x.items y.items (Gave bytes) is has.items r.items in record {
        reads = js.now;
        puts = ws;
        has = record { items = js.is; writes = r.writes ∙ has.writes };
        gives = gives is js.now ws ws bytes 0 0 (gave bytes is js.now js.so) (omega arith);
      }

  puts_bytes : (offered : ℕ) (bytes : List ℕ) → Sends offered bytes x y → HasLeft y is ws [] 0
  puts_bytes offered bytes r =
      let js = told x.items y.items (λ xs ys. ys ≡ after_write xs) is has.items r.items in
      let vs = told x.writes y.writes (λ us vs. (taken_of offered us ≡ Some (length bytes)) × (vs ≡ after_taken (length bytes) us)) ws has.writes r.writes in record {
        reads = js.now;
        puts = vs.now;
        has = record { items = js.is; writes = vs.is };
        gives = gives is js.now ws vs.now [] 0 0 (subst (λ (zs : List ReadItem). Alike is zs [] 0) (sym js.so) (wrote is))
            (let a = taken_fails (length bytes) ws in let b = ap write_fails_in vs.so.1 in omega (arith, a, b));
      }

  read_held : ReadHolds x y → HasLeft y is ws [] 0
  read_held r =
      let js = told x.items y.items (λ xs ys. after_hold xs ≡ Some ys) is has.items r.items in record {
        reads = js.now;
        puts = ws;
        has = record { items = js.is; writes = r.writes ∙ has.writes };
        gives = gives is js.now ws ws [] 0 0 (held is js.now js.so) (omega arith);
      }

  read_failed : ReadFails x y → HasLeft y is ws [] 1
  read_failed r =
      let js = told x.items y.items (λ xs ys. after_fault xs ≡ Some ys) is has.items r.items in record {
        reads = js.now;
        puts = ws;
        has = record { items = js.is; writes = r.writes ∙ has.writes };
        gives = gives is js.now ws ws [] 1 0 (failed is js.now js.so) (omega arith);
      }

  put_held : WriteHolds x y → HasLeft y is ws [] 0
  put_held r =
      let vs = told x.writes y.writes (λ us vs. after_write_hold us ≡ Some vs) ws has.writes r.writes in record {
        reads = is;
        puts = vs.now;
        has = record { items = r.items ∙ has.items; writes = vs.is };
        gives = gives is is ws vs.now [] 0 0 (itself is) (let a = write_held ws vs.now vs.so in omega (arith, a));
      }

  put_failed : WriteFails x y → HasLeft y is ws [] 1
  put_failed r =
      let vs = told x.writes y.writes (λ us vs. after_write_fault us ≡ Some vs) ws has.writes r.writes in record {
        reads = is;
        puts = vs.now;
        has = record { items = r.items ∙ has.items; writes = vs.is };
        gives = gives is is ws vs.now [] 0 1 (itself is) (write_failed ws vs.now vs.so);
      }

  at_end : ReadEnds x y → HasLeft y is ws [] 0
  at_end r =
      let js = told x.items y.items (λ xs ys. after_end xs ≡ Some ys) is has.items r.items in record {
        reads = js.now;
        puts = ws;
        has = record { items = js.is; writes = r.writes ∙ has.writes };
        gives = gives is js.now ws ws [] 0 0 (subst (λ (zs : List ReadItem). Alike is zs [] 0) (sym (ended is js.now js.so).same) (itself is)) (omega arith);
      }

  stopped : (stop : Stop) → StopsAt stop x y → HasLeft y is ws [] (faults_at stop)
  stopped NoStop e = record {
    reads = is;
    puts = ws;
    has = record { items = ap (λ (z : Looks). z.items) e ∙ has.items; writes = ap (λ (z : Looks). z.writes) e ∙ has.writes };
    gives = gives is is ws ws [] 0 0 (itself is) (omega arith);
  }
  stopped ReadHold r = read_held r
  stopped WriteHold r = put_held r
  stopped ReadFault r = read_failed r
  stopped WriteFault r = put_failed r
  stopped LinkEnd r = at_end r

  -- the plan ends there
  end_there : (stop : Stop) → StopsAt stop x y → (ends_at stop ≡ 0) ⊎ ((has_end is ≡ true) × (spelled (before_end is) ≡ []))
  end_there NoStop r = inl refl
  end_there ReadHold r = inl refl
  end_there WriteHold r = inl refl
  end_there ReadFault r = inl refl
  end_there WriteFault r = inl refl
  end_there LinkEnd r =
      let js = told x.items y.items (λ xs ys. after_end xs ≡ Some ys) is has.items r.items in
      let e = ended is js.now js.so in inr (e.ends, e.over)

moved : (m : Move) (ms : List Move) (x z : Looks) (is : List ReadItem) (ws : List WriteItem) → HasLeft x is ws (received_by ms) 0 → Moves m x z → HasLeft z is ws (received_by (m ∷ ms)) 0
moved (Received bytes) ms x z is ws h r =
    let n = received x z h.reads h.puts h.has bytes r.1 in
    record { reads = n.reads; puts = n.puts; has = n.has; gives = gives_more is h.reads n.reads ws h.puts n.puts (received_by ms) bytes 0 0 h.gives n.gives }
moved (Sent offered bytes) ms x z is ws h r =
    let n = puts_bytes x z h.reads h.puts h.has offered bytes r.1 in
    record { reads = n.reads; puts = n.puts; has = n.has; gives = subst (λ (xs : List ℕ). Gives is ws n.reads n.puts xs 0) (append-nil (received_by ms)) (gives_more is h.reads n.reads ws h.puts n.puts (received_by ms) [] 0 0 h.gives n.gives) }

led : (ms : List Move) (x y : Looks) (is : List ReadItem) (ws : List WriteItem) → Has x is ws → Leads ms x y → HasLeft y is ws (received_by ms) 0
led [] x y is ws has e = record {
  reads = is;
  puts = ws;
  has = record { items = ap (λ (z : Looks). z.items) e ∙ has.items; writes = ap (λ (z : Looks). z.writes) e ∙ has.writes };
  gives = gives is is ws ws [] 0 0 (itself is) (omega arith);
}
led (m ∷ ms) x y is ws has r = moved m ms r.0 y is ws (led ms x r.0 is ws has r.1) r.2

-- where the plan's end was met, what it gives is over
pub record UseGives (y : Looks) (is : List ReadItem) (ws : List WriteItem) (came : List ℕ) (stop : Stop) : Type 0 where
  pub left : HasLeft y is ws came (faults_at stop)
  pub end : (ends_at stop ≡ 0) ⊎ ((has_end is ≡ true) × (spelled (before_end is) ≡ came))

pub used : (x y : Looks) (is : List ReadItem) (ws : List WriteItem) (sent came : List ℕ) (stop : Stop) → Has x is ws → IsUsed x y sent came stop → UseGives y is ws came stop
used x y is ws sent came stop has u = subst (λ (xs : List ℕ). UseGives y is ws xs stop) u.received_is (record {
  left = record {
    reads = last.reads;
    puts = last.puts;
    has = last.has;
    gives = subst (λ (f : ℕ). Gives is ws last.reads last.puts (received_by u.moves) f) none (subst (λ (xs : List ℕ). Gives is ws last.reads last.puts xs (0 + faults_at stop)) (append-nil (received_by u.moves)) (gives_more is before.reads last.reads ws before.puts last.puts (received_by u.moves) [] 0 (faults_at stop) before.gives last.gives));
  };
  end = by_end (end_there u.moved y before.reads before.puts before.has stop u.stops);
})
  where
    before : HasLeft u.moved is ws (received_by u.moves) 0
    before = led u.moves x u.moved is ws has u.leads

    last : HasLeft y before.reads before.puts [] (faults_at stop)
    last = stopped u.moved y before.reads before.puts before.has stop u.stops

    none : 0 + faults_at stop ≡ faults_at stop
    none = omega arith

    by_end : (ends_at stop ≡ 0) ⊎ ((has_end before.reads ≡ true) × (spelled (before_end before.reads) ≡ [])) → (ends_at stop ≡ 0) ⊎ ((has_end is ≡ true) × (spelled (before_end is) ≡ received_by u.moves))
    by_end (inl e) = inl e
    by_end (inr e) = inr (sym before.gives.ends ∙ e.0, before.gives.bytes ∙ ap (λ (xs : List ℕ). received_by u.moves ++ xs) e.1 ∙ append-nil (received_by u.moves))

-- what is left where a link has these items, of a tape with `all` bytes of which `taken` were taken
abbrev pub left_at : ℕ → ℕ → List ReadItem → List WriteItem → Left
left_at all taken is ws = record {
  faults = fails_in (before_end is) + write_fails_in ws;
  bytes = all - taken;
  until_end = length (spelled (before_end is));
  ends = has_end is;
  others = 0;
}

pub left_is : (a b c d e f : ℕ) (g h : Bool) → a ≡ d → b ≡ e → c ≡ f → g ≡ h
    → (let l : Left = record { faults = a; bytes = b; until_end = c; ends = g; others = 0 } in l) ≡ (let m : Left = record { faults = d; bytes = e; until_end = f; ends = h; others = 0 } in m)
left_is a b c d e f g h i j k l = cc

-- what a use met is planned, and the others are left
pub record PlannedUse (all taken : ℕ) (is : List ReadItem) (ws : List WriteItem) (y : Looks) (m : Met) (came : List ℕ) : Type 0 where
  pub left : HasLeft y is ws came m.faults
  pub planned : IsPlanned (left_at all taken is ws) m
  pub after : after_met (left_at all taken is ws) m ≡ left_at all (taken + length came) left.reads left.puts

pub use_planned : (all taken : ℕ) (x y : Looks) (is : List ReadItem) (ws : List WriteItem) (sent came : List ℕ) (stop : Stop) (m : Met) → Has x is ws → IsUsed x y sent came stop → IsMet m came stop → taken + length came ≤ all
    → PlannedUse all taken is ws y m came
use_planned all taken x y is ws sent came stop m has u met room =
    let g : UseGives y is ws came stop = used x y is ws sent came stop has u in
    let l : HasLeft y is ws came m.faults = subst (λ (f : ℕ). HasLeft y is ws came f) (sym met.faults) g.left in
    let faults : fails_in (before_end is) + write_fails_in ws ≡ m.faults + (fails_in (before_end l.reads) + write_fails_in l.puts) = l.gives.faults_are in
    let bytes : m.taken ≡ length came = met.taken in
    let spells : length (spelled (before_end is)) ≡ length came + length (spelled (before_end l.reads)) = ap length l.gives.bytes ∙ length-append came (spelled (before_end l.reads)) in
    record {
      left = l;
      planned = record { faults = omega (arith, faults); bytes = omega (arith, bytes, room); end = by_end g.end };
      after = left_is _ _ _ _ _ _ _ _ (omega (arith, faults)) (omega (arith, bytes)) (omega (arith, bytes, spells)) (sym l.gives.ends);
    }
  where
    by_end : (ends_at stop ≡ 0) ⊎ ((has_end is ≡ true) × (spelled (before_end is) ≡ came)) → EndPlanned (left_at all taken is ws) m
    by_end (inl e) = inl (met.ends ∙ e)
    by_end (inr e) = inr (e.0, met.taken ∙ ap length (sym e.1))
