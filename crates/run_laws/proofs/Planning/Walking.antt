-- The polls of a line, one after the other, by what they received.
use Rattle.std.proofs.Common.{ℕ, ◌≡◌, ◌≢◌, ◌≤◌, ◌+◌, ◌==◌, inl, inr, List, [], ◌∷◌, ◌++◌, length, true, false, if◌then◌else◌, refl, sym, ap, ◌∙◌, subst, append_assoc, arith, length-append}
use Rattle.std.proofs.lemmas.Bool.Decides.{nat_tests}
use Rattle.my_grammar.specs.declared.login.Login.{Login}
use Rattle.my_link.specs.declared.link.ReadItem.{ReadItem}
use Rattle.my_link.specs.declared.link.WriteItem.{WriteItem}
use Rattle.my_link.specs.declared.met.Met.{Met}
use Rattle.my_link.specs.Looks.{Looks}
use Rattle.my_link.specs.Moves.{Stop, IsMet, IsUsed, received_by, sent_by}
use Rattle.my_link.specs.Spent.{spelled}
use Rattle.my_client.specs.declared.poll.After.{After}
use Rattle.my_client.specs.Kept.{Asked, Kept}
use Rattle.my_client.specs.Polls.{IsPolled}
use Rattle.my_script.specs.declared.transcript.Use.{Use}
use Rattle.my_run.proofs.Polls.{met_so, taken_so, used_so}
use Rattle.my_run_judge.specs.declared.plan.left.Left.{Left}
use Rattle.my_run_judge.specs.Plan.Left.{AreKept, IsKept, IsPlanned, after_met, after_use, after_uses}
use Rattle.my_run_judge.specs.Plan.Planned.{before_end}
use Rattle.run_laws.proofs.Planning.Spending.{Has, PlannedUse, left_at, use_planned}

-- a poll that received these bytes
pub record OnePoll (u : Met) (x : Looks) (taken : List ℕ) (y : Looks) (end : List ℕ) : Type 0 where
  pub sent : List ℕ
  pub came : List ℕ
  pub stop : Stop
  pub used : IsUsed x y sent came stop
  pub met : IsMet u came stop
  pub end_is : end ≡ taken ++ came

pub polled_once : (login : Login) (a : Asked) (k : Kept) (x : Looks) (u : Met) (p : After) (end : Kept) (y : Looks) → IsPolled login a k x u p end y → OnePoll u x k.taken y end.taken
polled_once login a k x u p end y w = record {
  sent = sent_by w.moves;
  came = received_by w.moves;
  stop = w.stop;
  used = used_so login a k x u p end y w;
  met = met_so login a k x u p end y w;
  end_is = taken_so login a k x u p end y w;
}

-- one for each use, all of connection n
abbrev pub Walks : ℕ → List Use → Looks → List ℕ → Looks → List ℕ → Type 0
Walks n [] x taken y end = (y ≡ x) × (end ≡ taken)
Walks n (u ∷ us) x taken y end = (u.number ≡ n) × (z : Looks) × (mid : List ℕ) × OnePoll u.met x taken z mid × Walks n us z mid y end

pub walks_one : (n : ℕ) (u : Use) (x : Looks) (taken : List ℕ) (y : Looks) (end : List ℕ) → u.number ≡ n → OnePoll u.met x taken y end → Walks n (u ∷ []) x taken y end
walks_one n u x taken y end e p = (e, y, end, p, (refl, refl))

-- polls, and then others
pub walks_both : (n : ℕ) (us vs : List Use) (x : Looks) (taken : List ℕ) (y : Looks) (mid : List ℕ) (z : Looks) (end : List ℕ) → Walks n us x taken y mid → Walks n vs y mid z end → Walks n (us ++ vs) x taken z end
walks_both n [] vs x taken y mid z end w v = subst (λ (a : Looks). Walks n vs a taken z end) w.0 (subst (λ (bs : List ℕ). Walks n vs y bs z end) w.1 v)
walks_both n (u ∷ us) vs x taken y mid z end w v = (w.0, w.1, w.2, w.3, walks_both n us vs w.1 w.2 y mid z end w.4 v)

-- no byte is lost
pub walks_longer : (n : ℕ) (us : List Use) (x : Looks) (taken : List ℕ) (y : Looks) (end : List ℕ) → Walks n us x taken y end → length taken ≤ length end
walks_longer n [] x taken y end w = let e = ap length w.1 in omega (arith, e)
walks_longer n (u ∷ us) x taken y end w =
    let more = walks_longer n us w.1 w.2 y end w.4 in
    let here = ap length w.3.end_is ∙ length-append taken w.3.came in
    omega (arith, more, here)

-- where the link stands in its plan, of which the bytes taken are the first
pub record StandsIn (plan : List ℕ) (all : ℕ) (x : Looks) (taken : List ℕ) (left : Left) : Type 0 where
  pub reads : List ReadItem
  pub puts : List WriteItem
  pub has : Has x reads puts
  pub bytes : plan ≡ taken ++ spelled (before_end reads)
  pub left_is : left ≡ left_at all (length taken) reads puts

-- All these uses are planned, and the link stands there after them.
pub record WalkKept (n : ℕ) (plan : List ℕ) (all : ℕ) (us : List Use) (left : Left) (y : Looks) (end : List ℕ) : Type 0 where
  pub kept : AreKept n left us
  pub stands : StandsIn plan all y end (after_uses n left us)

-- This use is planned, and the link stands there after it.
record PollKept (n : ℕ) (plan : List ℕ) (all : ℕ) (u : Use) (left : Left) (z : Looks) (mid : List ℕ) : Type 0 where
  kept : IsKept n left u
  stands : StandsIn plan all z mid (after_use n left u)

poll_kept : (n : ℕ) (plan : List ℕ) (all : ℕ) (u : Use) (x : Looks) (taken : List ℕ) (left : Left) (z : Looks) (mid : List ℕ) → u.number ≡ n → OnePoll u.met x taken z mid → length mid ≤ all → StandsIn plan all x taken left
    → PollKept n plan all u left z mid
poll_kept n plan all u x taken left z mid e p low s = record {
  kept = inr (subst (λ (l : Left). IsPlanned l u.met) (sym s.left_is) here.planned);
  stands = record {
    reads = here.left.reads;
    puts = here.left.puts;
    has = here.left.has;
    bytes = s.bytes ∙ ap (λ (bs : List ℕ). taken ++ bs) here.left.gives.bytes ∙ sym (append_assoc taken p.came (spelled (before_end here.left.reads)))
        ∙ ap (λ (bs : List ℕ). bs ++ spelled (before_end here.left.reads)) (sym p.end_is);
    left_is = ap (λ b. if b then after_met left u.met else left) number
        ∙ ap (λ (l : Left). after_met l u.met) s.left_is
        ∙ here.after
        ∙ ap (λ m. left_at all m here.left.reads here.left.puts) (sym sum);
  };
}
  where
    sum : length mid ≡ length taken + length p.came
    sum = ap length p.end_is ∙ length-append taken p.came

    room : length taken + length p.came ≤ all
    room = omega (arith, sum, low)

    here : PlannedUse all (length taken) s.reads s.puts z u.met p.came
    here = use_planned all (length taken) x z s.reads s.puts p.sent p.came p.stop u.met s.has p.used p.met room

    number : (u.number == n) ≡ true
    number = grind (arith, nat_tests)

pub walk_kept : (n : ℕ) (plan : List ℕ) (all : ℕ) (us : List Use) (x : Looks) (taken : List ℕ) (left : Left) (y : Looks) (end : List ℕ) → Walks n us x taken y end → length end ≤ all → StandsIn plan all x taken left
    → WalkKept n plan all us left y end
walk_kept n plan all [] x taken left y end w low s = record {
  kept = tt;
  stands = subst (λ (z : Looks). StandsIn plan all z end left) (sym w.0) (subst (λ (bs : List ℕ). StandsIn plan all x bs left) (sym w.1) s);
}
walk_kept n plan all (u ∷ us) x taken left y end w low s =
    let longer : length w.2 ≤ length end = walks_longer n us w.1 w.2 y end w.4 in
    let here : PollKept n plan all u left w.1 w.2 = poll_kept n plan all u x taken left w.1 w.2 w.0 w.3 (omega (arith, longer, low)) s in
    let later : WalkKept n plan all us (after_use n left u) y end = walk_kept n plan all us w.1 w.2 (after_use n left u) y end w.4 low here.stands in
    record { kept = (here.kept, later.kept); stands = later.stands }

-- uses of other connections change nothing
abbrev pub NoneAt : ℕ → List Use → Type 0
NoneAt n [] = Unit {0}
NoneAt n (u ∷ us) = (u.number ≢ n) × NoneAt n us

pub none_kept : (n : ℕ) (left : Left) (us : List Use) → NoneAt n us → AreKept n left us × (after_uses n left us ≡ left)
none_kept n left [] e = (tt, refl)
none_kept n left (u ∷ us) e =
    let other : (u.number == n) ≡ false = let never = e.0 in grind (arith, nat_tests) in
    let same : after_use n left u ≡ left = ap (λ b. if b then after_met left u.met else left) other in
    let more = none_kept n left us e.1 in
    ((inl e.0, subst (λ (l : Left). AreKept n l us) (sym same) more.0), ap (λ (l : Left). after_uses n l us) same ∙ more.1)

pub walks_elsewhere : (m n : ℕ) (us : List Use) (x : Looks) (taken : List ℕ) (y : Looks) (end : List ℕ) → m ≢ n → Walks m us x taken y end → NoneAt n us
walks_elsewhere m n [] x taken y end other w = tt
walks_elsewhere m n (u ∷ us) x taken y end other w = (λ e. other (sym w.0 ∙ e), walks_elsewhere m n us w.1 w.2 y end other w.4)
