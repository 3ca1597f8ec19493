-- What the response to the query for the settings says.
use Rattle.std.proofs.Common.{◌≡◌, ℕ, List, [], ◌∷◌, ◌++◌, Bool, true, false, cond, Option, Some, None, refl, sym, ap, ◌∙◌, subst}
use Rattle.my_flags.specs.declared.flags.StatusFlags.{StatusFlags}
use Rattle.my_flags.specs.Sets.{deprecates_eof}
use Rattle.my_grammar.specs.declared.login.Login.{Login}
use Rattle.my_grammar.specs.declared.packet.Packet.{Packet}
use Rattle.my_grammar.specs.declared.spot.Kind.{Kind}
use Rattle.my_grammar.specs.declared.spot.Kind.TheVariants as kinds
use Rattle.my_grammar.specs.declared.spot.RowFormat.TheVariants.{Text}
use Rattle.my_grammar.specs.FitSets.{FitSets, is_head}
use Rattle.my_grammar.specs.Sets.{SetHead, Sets, NoSets, Lone, Failed, Heading, Headed, Begun, Ended, Broken, at_most_one, each, head_packets, packets_in, spot_in}
use Rattle.my_grammar.specs.Talk.{Queried, Fits}
use Rattle.my_reply.specs.declared.column.Column.{Column}
use Rattle.my_value.specs.RowParts.{RowParts}
use Rattle.my_reading.specs.declared.facts.Facts.{Facts}
use Rattle.my_reading.specs.declared.settings.Settings.{Settings}
use Rattle.my_reading.specs.declared.settings.Stage.{Stage}
use Rattle.my_reading.specs.declared.settings.Stage.TheVariants.{Unasked, Asked, Known}
use Rattle.my_reading.specs.Facts.{facts_after, facts_by}
use Rattle.my_reading.specs.Place.{Exchange, facts_of}
use Rattle.my_reading.specs.Rows.{row_at}
use Rattle.my_reading.specs.Settings.{awaits_row, end_settings, good_settings, in_force, row_settings, told_by}
use Rattle.history_laws.specs.Groups.{Made}
use Rattle.history_laws.specs.Order.{AreDone}
use Rattle.history_laws.specs.Settled.{AreSettings, Knows, columns_after, is_known, is_none, last_row, or_older, said_by}
use Rattle.history_laws.proofs.Setting.{exchanges_known, exchanges_set, good_known, end_known, packets_known, payload_settings}

-- while the server was asked
good_asked : (stage : Stage) (s : Settings) → stage ≡ Asked → good_settings stage s ≡ in_force s
good_asked Unasked s e = cc
good_asked Asked s e = refl
good_asked Known s e = cc

end_asked : (stage : Stage) (s : Settings) → stage ≡ Asked → end_settings stage s ≡ in_force s
end_asked Unasked s e = cc
end_asked Asked s e = refl
end_asked Known s e = cc

row_asked : (row : Option RowParts) (s : Settings) → s.stage ≡ Asked → row_settings row s ≡ told_by row s
row_asked row s e = ap (λ (stage : Stage). cond {A = Settings} (awaits_row stage) (told_by row s) s) e

-- a later row overrides an earlier one
told_again : (row older : Option RowParts) (s : Settings) → told_by row (told_by older s) ≡ told_by (or_older row older) s
told_again None older s = refl
told_again (Some row) None s = refl
told_again (Some row) (Some older) s = refl

told_stage : (row : Option RowParts) (s : Settings) → (told_by row s).stage ≡ s.stage
told_stage None s = refl
told_stage (Some row) s = refl

rows_columns : (f : Facts) (rows : List (List ℕ)) → (facts_by (each kinds.Row rows []) f).columns ≡ f.columns
rows_columns f [] = refl
rows_columns f (p ∷ ps) = rows_columns f ps

rows_told : (f : Facts) (rows : List (List ℕ)) → f.settings.stage ≡ Asked → (facts_by (each kinds.Row rows []) f).settings ≡ told_by (last_row f.columns rows) f.settings
rows_told f [] e = refl
rows_told f (p ∷ ps) e =
    let g = facts_by (each kinds.Row ps []) f in
    let older = last_row f.columns ps in
    let before : g.settings ≡ told_by older f.settings = rows_told f ps e in
    let asked : g.settings.stage ≡ Asked = ap (λ (s : Settings). s.stage) before ∙ told_stage older f.settings ∙ e in
    row_asked (row_at Text g.columns p) g.settings asked
    ∙ ap (λ (columns : List Column). told_by (row_at Text columns p) g.settings) (rows_columns f ps)
    ∙ ap (told_by (row_at Text f.columns p)) before
    ∙ told_again (row_at Text f.columns p) older f.settings

-- payloads after others
each_after : (k : Kind) (ps : List (List ℕ)) (others : List Packet) (f : Facts) → facts_by (each k ps others) f ≡ facts_by (each k ps []) (facts_by others f)
each_after k [] others f = refl
each_after k (p ∷ ps) others f = ap (λ (g : Facts). facts_after k p g) (each_after k ps others f)

-- a head says nothing
columns_say_none : (ps : List (List ℕ)) (others : List Packet) (f : Facts) → (facts_by (each kinds.Column ps others) f).settings ≡ (facts_by others f).settings
columns_say_none [] others f = refl
columns_say_none (p ∷ ps) others f = payload_settings kinds.Column p (facts_by (each kinds.Column ps others) f) ∙ columns_say_none ps others f

close_says_none : (o : Option (List ℕ)) (others : List Packet) (f : Facts) → (facts_by (at_most_one kinds.ColumnsDone o others) f).settings ≡ (facts_by others f).settings
close_says_none None others f = refl
close_says_none (Some p) others f = refl

head_says_none : (head : SetHead) (others : List Packet) (f : Facts) → (facts_by (head_packets head others) f).settings ≡ (facts_by others f).settings
head_says_none head others f =
    close_says_none head.close (each kinds.Column head.columns (record { kind = kinds.Count head.number; payload = head.count } ∷ others)) f
    ∙ columns_say_none head.columns (record { kind = kinds.Count head.number; payload = head.count } ∷ others) f

-- what a response says so far, and that it said all once its first set ended
record Says (f : Facts) (x : Sets) : Type 0 where
  is : (facts_by (packets_in x) f).settings ≡ said_by f x
  all : is_head (spot_in x) ≡ true → is_none x ≡ false → is_known (facts_by (packets_in x) f).settings.stage ≡ true

module _ (f : Facts) (asked : f.settings.stage ≡ Asked) where
  -- once the settings are known, rows say nothing
  later_rows : (others : List Packet) (head : SetHead) (rows : List (List ℕ)) → is_known (facts_by others f).settings.stage ≡ true → (facts_by (each kinds.Row rows (head_packets head others)) f).settings ≡ (facts_by others f).settings
  later_rows others head rows known =
      let same = head_says_none head others f in
      ap (λ (h : Facts). h.settings) (each_after kinds.Row rows (head_packets head others) f)
      ∙ packets_known (each kinds.Row rows []) (facts_by (head_packets head others) f) (ap (λ (s : Settings). is_known s.stage) same ∙ known) ∙ same

  abbrev RowsSay : Sets → SetHead → List (List ℕ) → Type 0
  RowsSay older head rows = (facts_by (each kinds.Row rows (head_packets head (packets_in older))) f).settings ≡ cond (is_none older) (told_by (last_row (columns_after f head) rows) f.settings) (said_by f older)

  later_said : (older : Sets) (head : SetHead) (rows : List (List ℕ)) → is_none older ≡ false → is_head (spot_in older) ≡ true → Says f older → RowsSay older head rows
  later_said older head rows none place w =
      subst (λ b. (facts_by (each kinds.Row rows (head_packets head (packets_in older))) f).settings ≡ cond b (told_by (last_row (columns_after f head) rows) f.settings) (said_by f older)) (sym none)
      (later_rows (packets_in older) head rows (w.all place none) ∙ w.is)

  rows_said : (older : Sets) (head : SetHead) (rows : List (List ℕ)) → is_head (spot_in older) ≡ true → Says f older → RowsSay older head rows
  rows_said (NoSets asking) head rows place w =
      let g = facts_by (head_packets head []) f in
      let same : g.settings ≡ f.settings = head_says_none head [] f in
      ap (λ (h : Facts). h.settings) (each_after kinds.Row rows (head_packets head []) f)
      ∙ rows_told g rows (ap (λ (s : Settings). s.stage) same ∙ asked)
      ∙ ap (told_by (last_row g.columns rows)) same
  rows_said sets head rows place w = later_said sets head rows refl place w

  -- an OK without rows
  later_lone : (older : Sets) (p : List ℕ) (status : StatusFlags) → is_none older ≡ false → is_head (spot_in older) ≡ true → Says f older → Says f (Lone older p status)
  later_lone older p status none place w =
      let g : Settings = (facts_by (packets_in older) f).settings in
      let known = w.all place none in
      let same : good_settings g.stage g ≡ g = good_known g.stage g known in
      record {
        is = subst (λ b. good_settings g.stage g ≡ cond b (in_force f.settings) (said_by f older)) (sym none) (same ∙ w.is);
        all = λ h n. ap (λ (s : Settings). is_known s.stage) same ∙ known;
      }

  lone_said : (older : Sets) (p : List ℕ) (status : StatusFlags) → is_head (spot_in older) ≡ true → Says f older → Says f (Lone older p status)
  lone_said (NoSets asking) p status place w = record {
    is = good_asked f.settings.stage f.settings asked;
    all = λ h n. ap (λ (s : Settings). is_known s.stage) (good_asked f.settings.stage f.settings asked);
  }
  lone_said (Lone o q s) p status place w = later_lone (Lone o q s) p status refl place w
  lone_said sets p status place w = later_lone sets p status refl place w

  -- the end of a set
  later_ended : (older : Sets) (head : SetHead) (rows : List (List ℕ)) (last : List ℕ) (status : StatusFlags) → is_none older ≡ false → is_head (spot_in older) ≡ true → Says f older → Says f (Ended older head rows last status)
  later_ended older head rows last status none place w =
      let h : Settings = (facts_by (each kinds.Row rows (head_packets head (packets_in older))) f).settings in
      let known = w.all place none in
      let before : h ≡ (facts_by (packets_in older) f).settings = later_rows (packets_in older) head rows known in
      let here : is_known h.stage ≡ true = ap (λ (s : Settings). is_known s.stage) before ∙ known in
      let same : end_settings h.stage h ≡ h = end_known h.stage h here in
      record {
        is = subst (λ b. end_settings h.stage h ≡ cond b (in_force (told_by (last_row (columns_after f head) rows) f.settings)) (said_by f older)) (sym none) (same ∙ before ∙ w.is);
        all = λ x n. ap (λ (s : Settings). is_known s.stage) same ∙ here;
      }

  ended_said : (older : Sets) (head : SetHead) (rows : List (List ℕ)) (last : List ℕ) (status : StatusFlags) → is_head (spot_in older) ≡ true → Says f older → Says f (Ended older head rows last status)
  ended_said (NoSets asking) head rows last status place w =
      let h : Settings = (facts_by (each kinds.Row rows (head_packets head [])) f).settings in
      let r : h ≡ told_by (last_row (columns_after f head) rows) f.settings = rows_said (NoSets asking) head rows place w in
      let stage : h.stage ≡ Asked = ap (λ (s : Settings). s.stage) r ∙ told_stage (last_row (columns_after f head) rows) f.settings ∙ asked in
      record { is = end_asked h.stage h stage ∙ ap in_force r; all = λ x n. ap (λ (s : Settings). is_known s.stage) (end_asked h.stage h stage) }
  ended_said sets head rows last status place w = later_ended sets head rows last status refl place w

  said : (d : Bool) (x : Sets) → FitSets d x → Says f x
  said d (NoSets asking) fit = record { is = refl; all = λ h n. absurd (cc) }
  said d (Lone older p status) fit = lone_said older p status fit.0 (said d older fit.2)
  said d (Failed older p) fit = record { is = (said d older fit.2).is; all = λ h n. absurd (cc) }
  said d (Heading older head left) fit = record { is = head_says_none head (packets_in older) f ∙ (said d older fit.3).is; all = λ h n. absurd (cc) }
  said d (Headed older head) fit = record { is = head_says_none head (packets_in older) f ∙ (said d older fit.3).is; all = λ h n. absurd (cc) }
  said d (Begun older head rows) fit = record { is = rows_said older head rows fit.0.heading.place (said d older fit.1); all = λ h n. absurd (cc) }
  said d (Ended older head rows last status) fit = ended_said older head rows last status fit.0.heading.place (said d older fit.2)
  said d (Broken older head rows last) fit = record { is = rows_said older head rows fit.0.heading.place (said d older fit.2); all = λ h n. absurd (cc) }

-- each exchange fits
abbrev pub AllFit : List Exchange → Type 0
AllFit [] = Unit {0}
AllFit (e ∷ es) = Fits e.talk × AllFit es

pub done_fit : (es : List Exchange) → AreDone es → AllFit es
done_fit [] w = tt
done_fit (e ∷ es) w = (w.1, done_fit es w.2)

fit_there : (newer older : List Exchange) (e : Exchange) → AllFit (newer ++ e ∷ older) → Fits e.talk
fit_there [] older e w = w.0
fit_there (n ∷ newer) older e w = fit_there newer older e w.1

-- so the settings are, of any exchanges
pub are_settings : (login : Login) (made : List Made) (es : List Exchange) → AllFit es → Knows login made es → AreSettings login made es
are_settings login made es fit known = record {
  set = exchanges_set login es;
  said = λ newer older call terms c x e asked.
      let one : Exchange = record { call = call; talk = Queried terms c x } in
      (said (facts_of login older) asked (deprecates_eof terms.kept) x (fit_there newer older one (subst AllFit e fit)).kinds).is;
  known = known;
  stay = λ newer older e k. ap (λ xs. (facts_of login xs).settings) e ∙ exchanges_known login newer older k;
}
