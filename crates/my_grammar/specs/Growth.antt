-- One payload more in an exchange.
use Rattle.std.specs.Prelude.{◌≡◌, ℕ, List, [], ◌∷◌, ◌++◌, Bool, true, false, Option, Some, None}
use Rattle.my_flags.specs.Sets.{deprecates_eof}
use Rattle.my_frame.specs.Chunks.{chunks, number_after_payload}
use Rattle.my_reply.specs.declared.column.Column.{Column}
use Rattle.my_reply.specs.Column.{column_at}
use Rattle.my_grammar.specs.declared.login.Login.{Login}
use Rattle.my_grammar.specs.declared.spot.Kind.{Kind}
use Rattle.my_grammar.specs.declared.spot.Kind.TheVariants as kinds
use Rattle.my_grammar.specs.Contexts.{context_after}
use Rattle.my_grammar.specs.Sets.{column_list, grow_sets}
use Rattle.my_grammar.specs.Prepares.{grow_reply}
use Rattle.my_grammar.specs.Talk.{Talk, Start, Unwelcome, Greeted, Asked, Replied, Changing, Queried, Preparing, Silent, Turn, Server, client_turns, packets_of, turns, number_of, server_bytes, client_bytes, context_of, described, Fits, origin, login_in, says, secret_in}

-- the exchange with a payload of this kind
abbrev pub grow_start : Kind → Login → List ℕ → Talk
grow_start (kinds.Greets offer) login p = Greeted login p offer []
grow_start kinds.Failed login p = Unwelcome login p
grow_start k login p = Start login

abbrev pub grow : Kind → Talk → List ℕ → Talk
grow k (Start login) p = grow_start k login p
grow k (Unwelcome login q) p = Unwelcome login q
grow k (Greeted login q offer chain) p = Greeted login q offer (record { kind = k; payload = p } ∷ chain)
grow k (Asked terms c) p = Replied terms c p k
grow k (Replied terms c last kind) p = Replied terms c last kind
grow k (Changing terms secret stand c chain) p = Changing terms secret stand c (record { kind = k; payload = p } ∷ chain)
grow k (Queried terms c sets) p = Queried terms c (grow_sets (deprecates_eof terms.kept) k sets p)
grow k (Preparing terms c reply) p = Preparing terms c (grow_reply (deprecates_eof terms.kept) k reply p)
grow k (Silent terms c) p = Silent terms c

-- the client's turns after a payload of this kind
abbrev pub replies : Login → (secret : Option (List ℕ)) → Kind → List ℕ → List Turn
replies login secret k p = client_turns (says login secret k p)

-- the client says nothing after another payload than a greeting and a request of a chain
abbrev pub is_calm : Kind → Bool
is_calm (kinds.Greets offer) = false
is_calm (kinds.Asks ask) = false
is_calm k = true

-- the number after what the client says, if anything
abbrev pub number_said : Option (List ℕ) → ℕ → ℕ
number_said None n = n
number_said (Some p) n = number_after_payload p n

-- the number after a payload that has the number n, and after what the client says to it
abbrev pub number_next : Login → (secret : Option (List ℕ)) → Kind → List ℕ → ℕ → ℕ
number_next login secret k p n = number_said (says login secret k p) (number_after_payload p n)

-- the bytes of what the client says, if anything, where the next number is n
abbrev pub bytes_said : Option (List ℕ) → ℕ → List ℕ
bytes_said None n = []
bytes_said (Some p) n = chunks p n

-- the bytes of what the client says to a payload that has the number n
abbrev pub said : Login → (secret : Option (List ℕ)) → Kind → List ℕ → ℕ → List ℕ
said login secret k p n = bytes_said (says login secret k p) (number_after_payload p n)

-- the columns of the set that is being read, after a payload of this kind
abbrev pub described_after : List Column → Kind → List ℕ → List Column
described_after columns (kinds.Count n) p = []
described_after columns kinds.Column p = columns ++ column_list (column_at p)
described_after columns kinds.ColumnsDone p = columns
described_after columns kinds.Row p = columns
described_after columns _ p = []

-- A payload more, of the kind that it is in its context, is one payload more in each reading of the exchange.
pub record Grows (t : Talk) (k : Kind) (p : List ℕ) : Type 0 where
  pub context : context_of (grow k t p) ≡ context_after (context_of t) k
  pub described_is : described (grow k t p) ≡ described_after (described t) k p
  pub packets_are : packets_of (grow k t p) ≡ record { kind = k; payload = p } ∷ packets_of t
  pub turns_are : (login : Login) → turns (grow k t p) ≡ replies (login_in login t) (secret_in t) k p ++ Server p ∷ turns t
  pub login_is : (login : Login) → login_in login (grow k t p) ≡ login_in login t
  pub secret_is : secret_in (grow k t p) ≡ secret_in t
  pub fits : Fits (grow k t p)
  pub origin_is : origin (grow k t p) ≡ origin t

-- What the payload does to the running number and to each side's bytes, and what the client says to it.
pub record Reads (login : Login) (secret : Option (List ℕ)) (k : Kind) (p : List ℕ) (ts : List Turn) : Type 0 where
  pub number : number_of (replies login secret k p ++ Server p ∷ ts) ≡ number_next login secret k p (number_of ts)
  pub server : server_bytes (replies login secret k p ++ Server p ∷ ts) ≡ server_bytes ts ++ chunks p (number_of ts)
  pub client : client_bytes (replies login secret k p ++ Server p ∷ ts) ≡ client_bytes ts ++ said login secret k p (number_of ts)
