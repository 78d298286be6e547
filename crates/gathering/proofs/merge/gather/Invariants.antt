use Rattle.gathering.proofs.merge.gather.Given as goal

-- the aim is that of this call
abbrev pub ghosts-glean_named : goal.ghosts-glean_named
ghosts-glean_named g a = record { aim = a.desk.aim }
