-- Which page the words of a command line ask for.
use Rattle.std.specs.Prelude.{ℕ, Bool, ◌||◌, List, [], ◌∷◌, codes, Option, Some, None, if◌then◌else◌}
use Rattle.std.specs.Str.{bytes_eq}
use Rattle.my_frame.specs.Sinks.{SinkSeen}
use Rattle.my_run.specs.Output.{WroteAll, WrotePart}
use Rattle.my_run.specs.declared.tool.Status.{Status}
use Rattle.my_run.specs.declared.tool.Status.TheVariants.{Done, SinkFailed}
use Rattle.my_cli.specs.declared.help.Page.{Page}
use Rattle.my_cli.specs.declared.help.Page.TheVariants.{Help, Version}
use Rattle.my_cli.specs.declared.help.TheConstants.{HELP, VERSION}

-- the words that ask for help, and those that ask for the version
abbrev pub asks_help : List ℕ → Bool
asks_help word = bytes_eq word (codes "--help") || bytes_eq word (codes "-h") || bytes_eq word (codes "help")

abbrev pub asks_version : List ℕ → Bool
asks_version word = bytes_eq word (codes "--version") || bytes_eq word (codes "-V")

-- a lone word asks for a page
abbrev pub page_for : List (List ℕ) → Option Page
page_for (word ∷ []) =
    if asks_help word then Some Help
    else (if asks_version word then Some Version else None)
page_for _ = None

abbrev pub page_text : Page → List ℕ
page_text Help = HELP.now
page_text Version = VERSION.now

-- all of a page went out, or a beginning of it before the sink failed
abbrev pub PageEnds : List ℕ → SinkSeen → SinkSeen → Status → Type 0
PageEnds text before now Done = WroteAll before text now
PageEnds text before now SinkFailed = WrotePart before text now
PageEnds text before now _ = ⊥
