use Rattle.pack_bound.proofs.NamingLemmas as naming
use Rattle.pack_bound.proofs.laws.good_named.Goals as goal

pub returns : goal.returns
returns c = λ region chosen barred tree floor is all all_barred good.
    naming.good_named region is chosen barred tree floor all all_barred good
