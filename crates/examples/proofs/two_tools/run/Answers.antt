use Rattle.examples.proofs.two_tools.run.Goals as goal

pub play_of-requires : goal.play_of-requires
play_of-requires g c = c.in_ok-script.ensures.count.1
