-- Hosts that are the machine itself.
use Rattle.std.specs.Prelude.{◌≡◌, ◌≢◌, ℕ, ◌-◌, ◌==◌, ◌&&◌, List, length, slice_index, slice_range, codes, All, Any, ◌⊎◌, Option, IfSome, if◌then◌else◌}
use Rattle.std.specs.Option.{ForSome}
use Rattle.std.specs.declared.net.ip_addr.IpAddr.{IpAddr}
use Rattle.std.specs.Net.Addr.{MatchIp, IsLoopbackV4, IsLoopbackV6}
use Rattle.std.specs.Net.Grammar.{IsIpv4Text, IsIpv6Text}

-- an address of the machine itself
abbrev pub IsLoopbackIp : IpAddr → Type 0
IsLoopbackIp ip = MatchIp ip IsLoopbackV4 IsLoopbackV6

-- a host without the brackets round it
abbrev pub unbracketed : List ℕ → List ℕ
unbracketed host =
    if slice_index host 0 == 91 && slice_index host (length host - 1) == 93 then slice_range host 1 (length host - 1)
    else host

-- the text writes an address, and P holds of it
abbrev pub Writes : {A : Type 0} → (List ℕ → A → Type 0) → List ℕ → (A → Type 0) → Type 0
Writes {A} Text host P = (a : A) × Text host a × P a

-- the text writes an address and P doesn't hold of it, or it writes none
abbrev pub WritesNo : {A : Type 0} → (List ℕ → A → Type 0) → List ℕ → (A → Type 0) → Type 0
WritesNo {A} Text host P = ((a : A) × Text host a × ¬ (P a)) ⊎ ((a : A) → ¬ (Text host a))

-- a host that is the machine itself: a loopback address, or `localhost`
abbrev pub IsLoopbackHost : List ℕ → Type 0
IsLoopbackHost host =
    Writes IsIpv4Text host IsLoopbackV4 ⊎ Writes IsIpv6Text (unbracketed host) IsLoopbackV6 ⊎ (host ≡ codes "localhost")

-- a host that isn't
pub record IsOtherHost (host : List ℕ) : Type 0 where
  pub no_v4 : WritesNo IsIpv4Text host IsLoopbackV4
  pub no_v6 : WritesNo IsIpv6Text (unbracketed host) IsLoopbackV6
  pub no_name : host ≢ codes "localhost"

-- a host with these known addresses is the machine itself, by one of them or by its name
abbrev pub IsLoopback : Option (List IpAddr) → List ℕ → Type 0
IsLoopback ips host = IfSome ips (Any IsLoopbackIp) ⊎ IsLoopbackHost host

-- it is another machine
abbrev pub IsElsewhere : Option (List IpAddr) → List ℕ → Type 0
IsElsewhere ips host = ForSome ips (All (λ ip. ¬ (IsLoopbackIp ip))) × IsOtherHost host
