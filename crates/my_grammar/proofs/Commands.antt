-- What a client sends when it begins an exchange.
use Rattle.std.proofs.Common.{◌≡◌, ℕ, List, [], ◌∷◌, ◌++◌, refl, sym, ap, ◌∙◌, append_assoc}
use Rattle.std.proofs.lemmas.List.{append-nil}
use Rattle.std.proofs.lemmas.Grind.{flat_map-append}
use Rattle.my_frame.specs.Chunks.{chunks, number_after_payload}
use Rattle.my_grammar.specs.declared.spot.Terms.{Terms}
use Rattle.my_grammar.specs.Sets.{Asking, ByText, ByStatement, Sets, Packet, asking_in, packets_in}
use Rattle.my_grammar.specs.Talk.{Talk, Start, Unwelcome, Greeted, Asked, Replied, Changing, Queried, Preparing, Silent, Turn, Command, served, sent_ahead, commands_by, turns, number_of, server_bytes, client_bytes, commands_with, commands_in, commands_bytes, origin}

-- payloads that are sent ahead
pub ahead_bytes : (ps : List (List ℕ)) (ts : List Turn) → client_bytes (sent_ahead ps ts) ≡ client_bytes ts ++ commands_bytes ps
ahead_bytes [] ts = sym (append-nil (client_bytes ts))
ahead_bytes (p ∷ ps) ts = ahead_bytes ps (Command p ∷ ts) ∙ append_assoc (client_bytes ts) (chunks p 0) (commands_bytes ps)

ahead_silent : (ps : List (List ℕ)) (ts : List Turn) → server_bytes (sent_ahead ps ts) ≡ server_bytes ts
ahead_silent [] ts = refl
ahead_silent (p ∷ ps) ts = ahead_silent ps (Command p ∷ ts)

-- and the command after them
pub ahead_then : (ahead : List (List ℕ)) (c : List ℕ) → client_bytes (Command c ∷ sent_ahead ahead []) ≡ commands_bytes ahead ++ chunks c 0
ahead_then ahead c = ap (λ bs. bs ++ chunks c 0) (ahead_bytes ahead [])

pub commands_said : (c : List ℕ) (asking : Asking) → client_bytes (commands_by c asking) ≡ commands_bytes (commands_with c asking)
commands_said c ByText = sym (append-nil (chunks c 0))
commands_said c (ByStatement ahead known) =
    ahead_then ahead c ∙ sym (flat_map-append (λ p. chunks p 0) ahead (c ∷ []) ∙ ap (λ bs. commands_bytes ahead ++ bs) (append-nil (chunks c 0)))

pub commands_silent : (c : List ℕ) (asking : Asking) → server_bytes (commands_by c asking) ≡ []
commands_silent c ByText = refl
commands_silent c (ByStatement ahead known) = ahead_silent ahead []

pub commands_number : (c : List ℕ) (asking : Asking) → number_of (commands_by c asking) ≡ number_after_payload c 0
commands_number c ByText = refl
commands_number c (ByStatement ahead known) = refl

-- the server's payloads are none of the client's
served_client : (ps : List Packet) (ts : List Turn) → client_bytes (served ps ts) ≡ client_bytes ts
served_client [] ts = refl
served_client (p ∷ ps) ts = served_client ps ts

pub queried_said : (terms : Terms) (c : List ℕ) (x : Sets) → client_bytes (turns (Queried terms c x)) ≡ commands_bytes (commands_in (Queried terms c x))
queried_said terms c x = served_client (packets_in x) (commands_by c (asking_in x)) ∙ commands_said c (asking_in x)

-- what an exchange begins with
pub origin_said : (t : Talk) → client_bytes (turns (origin t)) ≡ commands_bytes (commands_in t)
origin_said (Start login) = refl
origin_said (Unwelcome login p) = refl
origin_said (Greeted login p offer chain) = refl
origin_said (Asked terms c) = sym (append-nil (chunks c 0))
origin_said (Replied terms c last kind) = sym (append-nil (chunks c 0))
origin_said (Changing terms secret stand c chain) = sym (append-nil (chunks c 0))
origin_said (Queried terms c x) = commands_said c (asking_in x)
origin_said (Preparing terms c reply) = sym (append-nil (chunks c 0))
origin_said (Silent terms c) = sym (append-nil (chunks c 0))

pub origin_keeps : (t : Talk) → commands_in (origin t) ≡ commands_in t
origin_keeps (Start login) = refl
origin_keeps (Unwelcome login p) = refl
origin_keeps (Greeted login p offer chain) = refl
origin_keeps (Asked terms c) = refl
origin_keeps (Replied terms c last kind) = refl
origin_keeps (Changing terms secret stand c chain) = refl
origin_keeps (Queried terms c x) = refl
origin_keeps (Preparing terms c reply) = refl
origin_keeps (Silent terms c) = refl
