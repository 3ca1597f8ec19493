-- What payloads do to the settings.
use Rattle.std.proofs.Common.{◌≡◌, ℕ, List, [], ◌∷◌, ◌++◌, Bool, true, false, cond, Option, Some, None, unwrap_or, refl, sym, ap, ◌∙◌, subst}
use Rattle.my_auth.specs.declared.chain.AuthAsk.{AuthAsk}
use Rattle.my_auth.specs.declared.chain.AuthAsk.TheVariants.{Switch}
use Rattle.my_auth.specs.declared.plugin.AuthPlugin.TheVariants.{Native, Caching}
use Rattle.my_grammar.specs.declared.login.Login.{Login}
use Rattle.my_grammar.specs.declared.packet.Packet.{Packet}
use Rattle.my_grammar.specs.declared.spot.Kind.{Kind}
use Rattle.my_grammar.specs.declared.spot.Kind.TheVariants as kinds
use Rattle.my_grammar.specs.declared.spot.RowFormat.TheVariants.{Text}
use Rattle.my_grammar.specs.Talk.{packets_of}
use Rattle.my_handshake.specs.declared.greeting.Greeting.{Greeting}
use Rattle.my_handshake.specs.Greeting.{greeting_at}
use Rattle.my_reply.specs.declared.column.Column.{Column}
use Rattle.my_reply.specs.declared.replies.PrepareOk.{PrepareOk}
use Rattle.my_reply.specs.Column.{column_at}
use Rattle.my_reply.specs.Replies.{prepare_ok_at}
use Rattle.my_value.specs.declared.value.Value.{Value}
use Rattle.my_value.specs.RowParts.{RowParts}
use Rattle.my_reading.specs.declared.facts.Facts.{Facts}
use Rattle.my_reading.specs.declared.settings.Settings.{Settings}
use Rattle.my_reading.specs.declared.settings.Stage.{Stage}
use Rattle.my_reading.specs.declared.settings.Stage.TheVariants.{Unasked, Asked, Known}
use Rattle.my_reading.specs.Facts.{facts_after, facts_by, with_column, with_field, with_greeting, with_head, with_parameter, with_ask}
use Rattle.my_reading.specs.Place.{Exchange, facts_of}
use Rattle.my_reading.specs.Rows.{row_at}
use Rattle.my_reading.specs.Settings.{awaited, awaits_row, end_settings, in_force, good_settings, limit_in, row_settings, settled, told, told_by, wait_in}
use Rattle.history_laws.specs.Settled.{IsSet, is_known}

-- the settings after a payload of this kind, which may be a row
abbrev pub settings_after : Kind → Option RowParts → Settings → Settings
settings_after (kinds.Good status) row s = good_settings s.stage s
settings_after kinds.Row row s = row_settings row s
settings_after (kinds.End status) row s = end_settings s.stage s
settings_after k row s = s

greeting_says_none : (g : Option Greeting) (f : Facts) → (with_greeting g f).settings ≡ f.settings
greeting_says_none None f = refl
greeting_says_none (Some g) f = refl

either_settings : (b : Bool) (x y : Facts) (s : Settings) → x.settings ≡ s → y.settings ≡ s → (cond b x y).settings ≡ s
either_settings true x y s e f = e
either_settings false x y s e f = f

column_says_none : (c : Option Column) (f : Facts) → (with_column c f).settings ≡ f.settings
column_says_none None f = refl
column_says_none (Some c) f = either_settings _ _ _ f.settings refl refl

head_says_none : (o : Option PrepareOk) (f : Facts) → (with_head o f).settings ≡ f.settings
head_says_none None f = refl
head_says_none (Some ok) f = refl

parameter_says_none : (c : Option Column) (f : Facts) → (with_parameter c f).settings ≡ f.settings
parameter_says_none None f = refl
parameter_says_none (Some c) f = refl

field_says_none : (c : Option Column) (f : Facts) → (with_field c f).settings ≡ f.settings
field_says_none None f = refl
field_says_none (Some c) f = refl

ask_says_none : (ask : AuthAsk) (p : List ℕ) (f : Facts) → (with_ask ask p f).settings ≡ f.settings
ask_says_none (Switch Native) p f = refl
ask_says_none (Switch Caching) p f = refl
ask_says_none _ p f = refl

pub payload_settings : (k : Kind) (p : List ℕ) (f : Facts) → (facts_after k p f).settings ≡ settings_after k (row_at Text f.columns p) f.settings
payload_settings (kinds.Greets offer) p f = greeting_says_none (greeting_at p) f
payload_settings (kinds.Asks ask) p f = ask_says_none ask p f
payload_settings kinds.Column p f = column_says_none (column_at p) f
payload_settings (kinds.Prepared params columns) p f = head_says_none (prepare_ok_at p) f
payload_settings kinds.Parameter p f = parameter_says_none (column_at p) f
payload_settings kinds.Field p f = field_says_none (column_at p) f
payload_settings _ p f = refl

-- known settings stay
pub good_known : (stage : Stage) (s : Settings) → is_known stage ≡ true → good_settings stage s ≡ s
good_known Unasked s e = cc
good_known Asked s e = cc
good_known Known s e = refl

pub end_known : (stage : Stage) (s : Settings) → is_known stage ≡ true → end_settings stage s ≡ s
end_known Unasked s e = cc
end_known Asked s e = cc
end_known Known s e = refl

known_awaits : (stage : Stage) → is_known stage ≡ true → awaits_row stage ≡ false
known_awaits Unasked e = cc
known_awaits Asked e = cc
known_awaits Known e = refl

row_known : (row : Option RowParts) (s : Settings) → is_known s.stage ≡ true → row_settings row s ≡ s
row_known row s e = ap (λ (b : Bool). cond {A = Settings} b (told_by row s) s) (known_awaits s.stage e)

kind_known : (k : Kind) (row : Option RowParts) (s : Settings) → is_known s.stage ≡ true → settings_after k row s ≡ s
kind_known (kinds.Good status) row s e = good_known s.stage s e
kind_known kinds.Row row s e = row_known row s e
kind_known (kinds.End status) row s e = end_known s.stage s e
kind_known _ row s e = refl

pub packets_known : (packets : List Packet) (f : Facts) → is_known f.settings.stage ≡ true → (facts_by packets f).settings ≡ f.settings
packets_known [] f e = refl
packets_known (packet ∷ packets) f e =
    let g = facts_by packets f in
    let before : g.settings ≡ f.settings = packets_known packets f e in
    payload_settings packet.kind packet.payload g ∙ kind_known packet.kind (row_at Text g.columns packet.payload) g.settings (ap (λ (s : Settings). is_known s.stage) before ∙ e) ∙ before

pub known_on : (f : Facts) (packet : Packet) (packets more : List Packet) → more ≡ packet ∷ packets → is_known (facts_by packets f).settings.stage ≡ true → is_known (facts_by more f).settings.stage ≡ true
known_on f packet packets more is e =
    ap (λ ps. is_known (facts_by ps f).settings.stage) is ∙ ap (λ (s : Settings). is_known s.stage) (packets_known (packet ∷ []) (facts_by packets f) e) ∙ e

pub exchanges_known : (login : Login) (newer older : List Exchange) → is_known (facts_of login older).settings.stage ≡ true → (facts_of login (newer ++ older)).settings ≡ (facts_of login older).settings
exchanges_known login [] older e = refl
exchanges_known login (n ∷ newer) older e =
    let before = exchanges_known login newer older e in
    packets_known (packets_of n.talk) (facts_of login (newer ++ older)) (ap (λ (s : Settings). is_known s.stage) before ∙ e) ∙ before

-- each payload keeps what options say
in_force_set : (login : Login) (s : Settings) → IsSet login s → IsSet login (in_force s)
in_force_set login s w = record { limit_option = w.limit_option; wait_option = w.wait_option; limit_set = w.limit_set; wait_set = w.wait_set; before = λ e. absurd (cc); after = λ e. refl }

awaited_set : (login : Login) (s : Settings) → s.stage ≡ Unasked → IsSet login s → IsSet login (awaited s)
awaited_set login s is w = record { limit_option = w.limit_option; wait_option = w.wait_option; limit_set = w.limit_set; wait_set = w.wait_set; before = λ e. w.before (ap is_known is); after = λ e. absurd (cc) }

settled_set : (login : Login) (a b : Option ℕ) (s : Settings) → s.stage ≡ Unasked → IsSet login s → IsSet login (settled a b s)
settled_set login None b s is w = awaited_set login s is w
settled_set login (Some x) None s is w = awaited_set login s is w
settled_set login (Some x) (Some y) s is w = in_force_set login s w

good_set : (login : Login) (stage : Stage) (s : Settings) → s.stage ≡ stage → IsSet login s → IsSet login (good_settings stage s)
good_set login Unasked s is w = settled_set login s.limit_option s.wait_option s is w
good_set login Asked s is w = in_force_set login s w
good_set login Known s is w = w

end_set : (login : Login) (stage : Stage) (s : Settings) → IsSet login s → IsSet login (end_settings stage s)
end_set login Unasked s w = w
end_set login Asked s w = in_force_set login s w
end_set login Known s w = w

told_set : (login : Login) (cells : List Value) (s : Settings) → is_known s.stage ≡ false → IsSet login s → IsSet login (told cells s)
told_set login cells s is w = record {
  limit_option = w.limit_option;
  wait_option = w.wait_option;
  limit_set = λ n e. ap (λ o. limit_in o cells) (w.limit_option ∙ e);
  wait_set = λ n e. ap (λ o. wait_in s.limit_option o cells) (w.wait_option ∙ e);
  before = w.before;
  after = λ e. absurd (cc);
}

by_row : (login : Login) (row : Option RowParts) (s : Settings) → is_known s.stage ≡ false → IsSet login s → IsSet login (told_by row s)
by_row login None s is w = w
by_row login (Some row) s is w = told_set login row.cells s is w

awaits_unknown : (stage : Stage) → awaits_row stage ≡ true → is_known stage ≡ false
awaits_unknown Unasked e = refl
awaits_unknown Asked e = refl
awaits_unknown Known e = cc

row_set : (login : Login) (row : Option RowParts) (s : Settings) → IsSet login s → IsSet login (row_settings row s)
row_set login row s w = by_stage (awaits_row s.stage) refl
  where
    by_stage : (b : Bool) → awaits_row s.stage ≡ b → IsSet login (cond b (told_by row s) s)
    by_stage true e = by_row login row s (awaits_unknown s.stage e) w
    by_stage false e = w

kind_set : (login : Login) (k : Kind) (row : Option RowParts) (s : Settings) → IsSet login s → IsSet login (settings_after k row s)
kind_set login (kinds.Good status) row s w = good_set login s.stage s refl w
kind_set login kinds.Row row s w = row_set login row s w
kind_set login (kinds.End status) row s w = end_set login s.stage s w
kind_set login _ row s w = w

packets_set : (login : Login) (packets : List Packet) (f : Facts) → IsSet login f.settings → IsSet login (facts_by packets f).settings
packets_set login [] f w = w
packets_set login (packet ∷ packets) f w =
    let g = facts_by packets f in
    subst (IsSet login) (sym (payload_settings packet.kind packet.payload g)) (kind_set login packet.kind (row_at Text g.columns packet.payload) g.settings (packets_set login packets f w))

first_limit : (o : Option ℕ) (n d : ℕ) → o ≡ Some n → unwrap_or o d ≡ n
first_limit None n d e = cc
first_limit (Some m) n d e = cc

pub exchanges_set : (login : Login) (es : List Exchange) → IsSet login (facts_of login es).settings
exchanges_set login [] = record {
  limit_option = refl;
  wait_option = refl;
  limit_set = λ n e. first_limit login.packet_limit n _ e;
  wait_set = λ n e. first_limit login.wait_timeout n _ e;
  before = λ e. refl;
  after = λ e. absurd (cc);
}
exchanges_set login (e ∷ es) = packets_set login (packets_of e.talk) (facts_of login es) (exchanges_set login es)
