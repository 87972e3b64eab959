use Rattle.auto_facts.proofs.instances.+add_addresses.Given as goal

abbrev pub decreases-add_addresses : goal.decreases-add_addresses
decreases-add_addresses l = l.form
