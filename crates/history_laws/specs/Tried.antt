-- Values that the definitions of these laws accept, and wrong ones that they refute.
use Rattle.std.specs.Prelude.{◌≡◌, ℕ, List, [], ◌∷◌, None, Some, true}
use Rattle.my_flags.specs.declared.flags.StatusFlags.{StatusFlags}
use Rattle.my_grammar.specs.declared.login.Login.{Login}
use Rattle.my_grammar.specs.declared.spot.Terms.{Terms}
use Rattle.my_grammar.specs.Sets.{ByText, Lone, NoSets}
use Rattle.my_grammar.specs.Talk.{Asked, Talk}
use Rattle.my_reading.specs.declared.call.Call.{Call}
use Rattle.my_reading.specs.declared.call.Call.TheVariants.{Connect, NextRow, Query, Reset}
use Rattle.my_reading.specs.declared.facts.Facts.{Facts}
use Rattle.my_reading.specs.declared.settings.Settings.{Settings}
use Rattle.my_reading.specs.declared.settings.Stage.TheVariants.{Known}
use Rattle.my_reading.specs.Commands.{arranging_texts, queried}
use Rattle.my_reading.specs.Place.{Exchange, Place, client_side, exchanges}
use Rattle.my_reading.specs.Settings.{in_force}
use Rattle.my_reading.specs.Told.{Told, ToldFlag, ToldReady}
use Rattle.history_laws.specs.Groups.{Made}
use Rattle.history_laws.specs.Owners.{AreOf, IsArranged, IsTied}
use Rattle.history_laws.specs.Sent.{IsSentOf, is_answered}
use Rattle.history_laws.specs.Settled.{IsSet, said_by}
use Rattle.history_laws.specs.Table.{Opens}

abbrev pub made : Call → Told → Made
made c t = record { call = c; what = t }

abbrev pub query : Call
query = Query (1 ∷ [])

pub record Accepted : Type 0 where
  -- a query with its exchange, after those of a connect
  pub one : IsTied (made query ToldReady ∷ made Connect ToldReady ∷ []) (query ∷ Connect ∷ [])
  -- two exchanges of a reset, and two of the connect before it
  pub more : IsTied (made Reset (ToldFlag true) ∷ made Connect ToldReady ∷ []) (Reset ∷ Reset ∷ Connect ∷ Connect ∷ [])
  -- a query that is open
  pub waits : AreOf (Some query) (made Connect ToldReady ∷ []) (query ∷ Connect ∷ [])
  -- the text of a query
  pub begins : (login : Login) (terms : Terms) → Opens login terms query 3 (queried terms (1 ∷ []))
  -- an OK without rows puts the settings in force, and a second one says nothing
  pub says : (f : Facts) (status : StatusFlags) → said_by f (Lone (Lone (NoSets ByText) (0 ∷ []) status) (0 ∷ []) status) ≡ in_force f.settings

pub record Refuted : Type 0 where
  -- a query that was answered without an exchange, and a reset
  pub lacking : IsTied (made query ToldReady ∷ made Connect ToldReady ∷ []) (Connect ∷ []) → ⊥
  pub unsent : IsTied (made Reset (ToldFlag true) ∷ []) [] → ⊥
  -- an exchange of no call
  pub stray : AreOf None (made Connect ToldReady ∷ []) (query ∷ Connect ∷ []) → ⊥
  -- a query that sends another command, and a read that sends something
  pub other : (login : Login) (terms kept : Terms) (c : List ℕ) → Opens login terms query 3 (Asked kept c) → ⊥
  pub reads : (login : Login) (terms : Terms) (t : Talk) → Opens login terms NextRow 3 t → ⊥
  -- a connection that was made without the query that sets it up
  pub unarranged : (login : Login) (e : Exchange) → arranging_texts login ≡ (1 ∷ []) ∷ [] → e.call ≡ Connect → IsArranged login (made Connect ToldReady ∷ []) (e ∷ []) → ⊥
  -- an answer to what wasn't sent
  pub early : (p : Place) → p.sent ≡ [] → (x : ℕ) (xs : List ℕ) → client_side (exchanges p) ≡ x ∷ xs → is_answered p.talk ≡ true → IsSentOf p [] → ⊥
  -- another limit than the option's
  pub unset : (login : Login) (s : Settings) → login.packet_limit ≡ Some 7 → s.stage ≡ Known → s.limit ≡ 8 → IsSet login s → ⊥

abbrev pub AreTried : Type 0
AreTried = Accepted × Refuted
