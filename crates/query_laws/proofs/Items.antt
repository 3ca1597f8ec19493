-- A read of the next row, from the head of the first set on: it returns the set's rows in order, and then its end.
use Rattle.std.proofs.Common.{◌≡◌, ℕ, List, [], ◌∷◌, Bool, true, false, refl, sym, ap, ◌∙◌, subst}
use Rattle.my_flags.specs.declared.flags.StatusFlags.{StatusFlags}
use Rattle.my_flags.specs.Sets.{deprecates_eof}
use Rattle.my_value.specs.RowParts.{RowParts}
use Rattle.my_grammar.specs.declared.login.Login.{Login}
use Rattle.my_grammar.specs.declared.spot.Kind.{Kind}
use Rattle.my_grammar.specs.declared.spot.Kind.TheVariants as kinds
use Rattle.my_grammar.specs.declared.spot.Spot.{Spot}
use Rattle.my_grammar.specs.declared.spot.Spot.TheVariants as spots
use Rattle.my_grammar.specs.Cut.{is_idle, is_over}
use Rattle.my_grammar.specs.Growth.{grow}
use Rattle.my_grammar.specs.Sets.{Sets, described_in, format_in, with_row}
use Rattle.my_grammar.specs.Talk.{Talk, context_of, described}
use Rattle.my_reading.proofs.Described.{at_rows}
use Rattle.my_reading.specs.declared.call.Call.{Call}
use Rattle.my_reading.specs.declared.call.Call.TheVariants.{NextRow}
use Rattle.my_reading.specs.declared.error.Error.{Error}
use Rattle.my_reading.specs.Course.{Part, Item, Step, Goes, Stops, Returns, after_kind, course, halt, reads, step_of}
use Rattle.my_reading.specs.Place.{Place, facts_at, facts_of, is_rows, with_talk, without_end}
use Rattle.my_reading.specs.Rows.{row_of}
use Rattle.my_reading.specs.Told.{Told, ToldRow, ToldEnd, ToldNone, ToldError}
use Rattle.history_laws.proofs.Blaming.{is_failed}
use Rattle.history_laws.proofs.Growing.{is_quiet}
use Rattle.history_laws.proofs.Having.{Comes, either, row_at}
use Rattle.query_laws.specs.Found.{IsWhole}
use Rattle.query_laws.proofs.Answering.{Answered, At, comes}
use Rattle.query_laws.proofs.Firsts.{HasFirst, IsFirst, IsLone, end_first, first_grows, first_rows, head_in_rows, is_item, lone_first, row_first}
use Rattle.query_laws.proofs.Heading.{Reads}
use Rattle.query_laws.proofs.Running.{IsFine, Owns, course_fine, reads_fine}

-- these are all rows of the first set
abbrev pub Has : List RowParts → Bool → Sets → Type 0
Has rows e x = HasFirst (IsWhole rows) x

-- what a read returns after these rows; never that nothing is left
abbrev pub Gives : Call → (Talk → Type 0) → List RowParts → Place → Told → Type 0
Gives c B rows q (ToldRow r) = At c B (Reads (r ∷ rows)) q
Gives c B rows q ToldEnd = At c B (Has rows) q
Gives c B rows q ToldNone = ⊥
Gives c B rows q t = Unit {0}

data IsReading (c : Call) (B : Talk → Type 0) (rows : List RowParts) : List Part → Place → Type 0 where
  Awaits : (p : Place) → At c B (Reads rows) p → IsReading c B rows (Item ∷ []) p

only_rows : (s : Spot) → is_rows s ≡ true → s ≡ spots.Rows
only_rows spots.Rows e = refl
only_rows s e = cc

module _ (login : Login) (c : Call) (B : Talk → Type 0) (rows : List RowParts) where
  abbrev Own : List Part → Place → Type 0
  Own parts p = IsReading c B rows parts p

  abbrev Fine : Step → Type 0
  Fine s = IsFine Own (Gives c B rows) s

  fails : (q : Place) (e : Error) → Gives c B rows q (ToldError e)
  fails q e = tt

  -- the end of a lone OK
  module _ (p : Place) (began : Talk) (so : B began) (call_is : p.call ≡ c) where
    lone_fine : Answered began (Reads rows true) p.talk → Fine (Stops (without_end p) (Returns ToldEnd))
    lone_fine w = record {
      began = began;
      so = so;
      call_is = call_is;
      answered = record {
        terms = w.terms;
        command = w.command;
        sets = w.sets;
        talk_is = w.talk_is;
        origin_is = w.origin_is;
        has = subst (λ rs. HasFirst (IsWhole rs) w.sets) (sym w.has.0) (lone_first w.sets w.has.1);
        fits = w.fits;
      };
    }

    -- among the rows
    module _ (w : Answered began (IsFirst rows) p.talk) where
      spot_is : is_rows (context_of p.talk).spot ≡ true
      spot_is = subst (λ (t : Talk). is_rows (context_of t).spot ≡ true) (sym w.talk_is) (first_rows rows w.sets w.has)

      goes_on : is_over p.talk ≡ true → ⊥
      goes_on e = let no : is_idle spots.Rows ≡ true = subst (λ x. is_idle x ≡ true) (only_rows (context_of p.talk).spot spot_is) e in cc

      again : (k : Kind) → is_failed k ≡ false → is_item k ≡ false → (q rest : List ℕ) → Comes p k q → Fine (Goes (Item ∷ []) (with_talk p (grow k p.talk q) rest))
      again k calm other q rest come = Owns _ _ (Awaits _ (record {
        began = began;
        so = so;
        call_is = call_is;
        answered = comes began (IsFirst rows) (IsFirst rows) p w k q come (λ f. first_grows rows (deprecates_eof w.terms.kept) k w.sets q calm other f w.has);
      }))

      good_fine : (s : StatusFlags) (q rest : List ℕ) → Comes p (kinds.Good s) q → ⊥
      good_fine s q rest come = (comes began (IsFirst rows) (λ x. ⊥) p w (kinds.Good s) q come (λ f. head_in_rows rows w.sets w.has f.0)).has

      end_fine : (s : StatusFlags) (q rest : List ℕ) → Comes p (kinds.End s) q → At c B (Has rows) (with_talk p (grow (kinds.End s) p.talk q) rest)
      end_fine s q rest come = record {
        began = began;
        so = so;
        call_is = call_is;
        answered = comes began (IsFirst rows) (HasFirst (IsWhole rows)) p w (kinds.End s) q come (λ f. end_first rows w.sets q s w.has);
      }

      columns_are : (facts_at login p).columns ≡ described_in w.sets
      columns_are = (at_rows p.talk w.fits (only_rows (context_of p.talk).spot spot_is)).known (facts_of login p.older) ∙ ap described w.talk_is

      row_is : (q : List ℕ) → row_of (context_of p.talk).rows (facts_at login p).columns q ≡ row_of (format_in w.sets) (described_in w.sets) q
      row_is q = ap (λ (t : Talk). row_of (context_of t).rows (facts_at login p).columns q) w.talk_is ∙ ap (λ cs. row_of (format_in w.sets) cs q) columns_are

      row_fine : (q rest : List ℕ) → Comes p kinds.Row q → At c B (Reads (row_of (context_of p.talk).rows (facts_at login p).columns q ∷ rows)) (with_talk p (grow kinds.Row p.talk q) rest)
      row_fine q rest come = record {
        began = began;
        so = so;
        call_is = call_is;
        answered = comes began (IsFirst rows) (IsFirst (row_of (context_of p.talk).rows (facts_at login p).columns q ∷ rows)) p w kinds.Row q come
            (λ f. subst (λ r. IsFirst (r ∷ rows) (with_row w.sets q)) (sym (row_is q)) (row_first rows w.sets q w.has));
      }

      quiet_other : (k : Kind) → is_quiet k ≡ true → is_item k ≡ false
      quiet_other kinds.Row e = cc
      quiet_other (kinds.End s) e = cc
      quiet_other k e = refl

      after : (k : Kind) → is_failed k ≡ false → (q rest : List ℕ) → Comes p k q → Fine (after_kind Item [] k (with_talk p (grow k p.talk q) rest) (row_at login p q))
      after (kinds.Good s) calm q rest come = absurd (good_fine s q rest come)
      after (kinds.Greets n) calm q rest come = again (kinds.Greets n) calm refl q rest come
      after (kinds.Asks n) calm q rest come = again (kinds.Asks n) calm refl q rest come
      after kinds.Failed calm q rest come = absurd (cc)
      after (kinds.Count n) calm q rest come = again (kinds.Count n) calm refl q rest come
      after kinds.Column calm q rest come = again kinds.Column calm refl q rest come
      after kinds.ColumnsDone calm q rest come = again kinds.ColumnsDone calm refl q rest come
      after kinds.Row calm q rest come = row_fine q rest come
      after (kinds.End s) calm q rest come = end_fine s q rest come
      after (kinds.Prepared m n) calm q rest come = again (kinds.Prepared m n) calm refl q rest come
      after kinds.Parameter calm q rest come = again kinds.Parameter calm refl q rest come
      after kinds.Field calm q rest come = again kinds.Field calm refl q rest come
      after kinds.Bad calm q rest come = again kinds.Bad calm refl q rest come

      rows_fine : Fine (reads login Item [] p)
      rows_fine = reads_fine login NextRow Own (Gives c B rows) fails p Item [] refl (λ k quiet calm. again k calm (quiet_other k quiet)) after

  item_fine : (p : Place) → At c B (Reads rows) p → Fine (step_of login NextRow (Item ∷ []) p)
  item_fine p w = either Fine p.end_left _ _
      (λ e. lone_fine p w.began w.so w.call_is (subst (λ b. Answered w.began (Reads rows b) p.talk) e w.answered))
      (λ e.
      let v : Answered w.began (IsFirst rows) p.talk = subst (λ b. Answered w.began (Reads rows b) p.talk) e w.answered in
      either Fine (is_over p.talk) _ _ (λ over. absurd (goes_on p w.began w.so w.call_is v over)) (λ _. rows_fine p w.began w.so w.call_is v))

  own_fine : (parts : List Part) (p : Place) → Own parts p → Fine (step_of login NextRow parts p)
  own_fine parts p (Awaits q w) = item_fine q w

  pub read_gives : (p q : Place) (t : Told) → At c B (Reads rows) p → course login NextRow p ≡ halt q (Returns t) → Gives c B rows q t
  read_gives p q t w e = course_fine login NextRow Own (Gives c B rows) fails own_fine p q t (Owns _ p (Awaits p w)) e
