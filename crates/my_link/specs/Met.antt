-- What a connection met outside.
use Rattle.my_link.specs.declared.met.Met.{Met}

-- nothing was met yet
abbrev pub nothing_met : Met
nothing_met = record {
  faults = 0;
  holds = 0;
  ends = 0;
  deaths = 0;
  broken = 0;
  unlisted = 0;
  absent = 0;
  refused = 0;
  taken = 0;
  fed = 0;
}
