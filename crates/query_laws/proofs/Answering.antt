-- The newest exchange is a call's: how it began, and what was read of its sets.
use Rattle.std.proofs.Common.{◌≡◌, ℕ, suc, zero, List, [], ◌∷◌, length, ◌≤◌, Bool, true, false, cond, refl, sym, ap, ◌∙◌, subst, arith}
use Rattle.my_flags.specs.Sets.{deprecates_eof}
use Rattle.my_frame.specs.Front.{Front, Waiting, Broken, Whole}
use Rattle.my_grammar.proofs.Cutting.Fronts.{takes_whole}
use Rattle.my_grammar.proofs.Growth.{grows}
use Rattle.my_grammar.specs.declared.spot.Kind.{Kind}
use Rattle.my_grammar.specs.declared.spot.Terms.{Terms}
use Rattle.my_grammar.specs.Contexts.{is_bad}
use Rattle.my_grammar.specs.Cut.{Read, front_of, kind_of, read_from, read_front, read_within}
use Rattle.my_grammar.specs.Growth.{grow}
use Rattle.my_grammar.specs.Sets.{NoSets, Sets, asking_in, grow_sets}
use Rattle.my_grammar.specs.FitSets.{FitSets}
use Rattle.my_grammar.specs.Talk.{Fits, Queried, Talk, limit_of, number_of, origin, turns}
use Rattle.my_reading.specs.declared.call.Call.{Call}
use Rattle.my_reading.specs.Place.{Place, with_talk}
use Rattle.history_laws.proofs.Having.{Comes}

-- an exchange that began so, and of its sets this holds
pub record Answered (o : Talk) (R : Sets → Type 0) (t : Talk) : Type 0 where
  pub terms : Terms
  pub command : List ℕ
  pub sets : Sets
  pub talk_is : t ≡ Queried terms command sets
  pub origin_is : origin t ≡ o
  pub has : R sets
  pub fits : Fits t

-- the same where another thing holds of the sets
pub implies : (o : Talk) (R S : Sets → Type 0) (t : Talk) → ((x : Sets) → R x → S x) → Answered o R t → Answered o S t
implies o R S t so w = record { terms = w.terms; command = w.command; sets = w.sets; talk_is = w.talk_is; origin_is = w.origin_is; has = so w.sets w.has; fits = w.fits }

module _ (o : Talk) (R S : Sets → Type 0) (t : Talk) (w : Answered o R t) (k : Kind) (q : List ℕ) (kind_is : kind_of t q ≡ k) (good : is_bad k ≡ false) (short : length q ≤ limit_of t) where
  grown_is : grow k t q ≡ Queried w.terms w.command (grow_sets (deprecates_eof w.terms.kept) k w.sets q)
  grown_is = ap (λ u. grow k u q) w.talk_is

  -- a payload more
  pub grown : (FitSets (deprecates_eof w.terms.kept) (grow_sets (deprecates_eof w.terms.kept) k w.sets q) → S (grow_sets (deprecates_eof w.terms.kept) k w.sets q)) → Answered o S (grow k t q)
  grown so =
      let g = grows t k q kind_is good short w.fits in
      record {
        terms = w.terms;
        command = w.command;
        sets = grow_sets (deprecates_eof w.terms.kept) k w.sets q;
        talk_is = grown_is;
        origin_is = g.origin_is ∙ w.origin_is;
        has = so (subst Fits grown_is g.fits).kinds;
        fits = g.fits;
      }

-- what each payload keeps, the reading of more bytes keeps
module _ (o : Talk) (R : Sets → Type 0) (keeps : (d : Bool) (k : Kind) (x : Sets) (q : List ℕ) → R x → R (grow_sets d k x q)) where
  within_keeps : (n : ℕ) (t : Talk) (bytes : List ℕ) → Answered o R t → Answered o R (read_within n t bytes).talk
  unfolding read_within
  within_keeps zero t bytes w = w
  within_keeps (suc n) t bytes w = by_front (λ u rest v. within_keeps n u rest v) (front_of t bytes) refl
    where
      by_kind : ((u : Talk) (rest : List ℕ) → Answered o R u → Answered o R (read_within n u rest).talk) → (q rest : List ℕ) (next : ℕ) → front_of t bytes ≡ Whole q rest next → (bad : Bool) → is_bad (kind_of t q) ≡ bad
          → Answered o R (cond bad (let r : Read = record { talk = t; rest = bytes } in r) (read_within n (grow (kind_of t q) t q) rest)).talk
      by_kind go q rest next e true b = w
      by_kind go q rest next e false b =
          let taken = takes_whole (number_of (turns t)) (limit_of t) bytes q rest next e in
          go (grow (kind_of t q) t q) rest (grown o R R t w (kind_of t q) q refl b (omega (arith, taken.within)) (λ _. keeps (deprecates_eof w.terms.kept) (kind_of t q) w.sets q w.has))

      by_front : ((u : Talk) (rest : List ℕ) → Answered o R u → Answered o R (read_within n u rest).talk) → (x : Front) → front_of t bytes ≡ x → Answered o R (read_front t bytes x (read_within n)).talk
      by_front go Waiting e = w
      by_front go (Broken fault) e = w
      by_front go (Whole q rest next) e = by_kind go q rest next e (is_bad (kind_of t q)) refl

  pub from_keeps : (t : Talk) (bytes : List ℕ) → Answered o R t → Answered o R (read_from t bytes).talk
  unfolding read_from
  from_keeps t bytes w = within_keeps (length bytes) t bytes w

-- The newest exchange is this call's and began so. Of its sets this holds, where an end is left or isn't.
pub record At (c : Call) (B : Talk → Type 0) (R : Bool → Sets → Type 0) (p : Place) : Type 0 where
  pub began : Talk
  pub so : B began
  pub call_is : p.call ≡ c
  pub answered : Answered began (R p.end_left) p.talk

-- a payload more at a place
pub comes : (o : Talk) (R S : Sets → Type 0) (p : Place) (w : Answered o R p.talk) (k : Kind) (q : List ℕ) → Comes p k q
    → (FitSets (deprecates_eof w.terms.kept) (grow_sets (deprecates_eof w.terms.kept) k w.sets q) → S (grow_sets (deprecates_eof w.terms.kept) k w.sets q)) → Answered o S (grow k p.talk q)
comes o R S p w k q c so = grown o R S p.talk w k q c.kind_is c.good c.short so
