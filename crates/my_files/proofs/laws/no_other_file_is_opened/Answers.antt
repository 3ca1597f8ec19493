use Rattle.my_files.proofs.Listing.{no_other}
use Rattle.my_files.proofs.laws.no_other_file_is_opened.Goals as goal

pub returns : goal.returns
returns c = no_other
