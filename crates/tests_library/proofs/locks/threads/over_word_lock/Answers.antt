use Rattle.fast_mutex.proofs.Stays.{each_of_lock}
use Rattle.tests_library.proofs.locks.threads.over_word_lock.Goals as goal

pub map_vec-requires-after_bounds : goal.map_vec-requires-after_bounds
map_vec-requires-after_bounds g c = λ lifetimes outlives i x h is. each_of_lock _ _ _ _ 1
    c.args.threads c.in-Ok.ensures.seats i x h is
