use Rattle.lamport_core.proofs.Steps
use Rattle.lamport_core.proofs.laws.line_laws.Goals as goal

pub returns : goal.returns
returns c = record {
  rest = λ n x y i b b' at at' s p m f. Steps.at_Rest n x y i b b' at at' s p m f;
  start = λ n x y i b b' at at' s p m f. Steps.at_Start n x y i b b' at at' s m f;
  set_x = λ n x y i b at at' s m. Steps.at_SetX n x y i b at at' s m;
  test_y = λ n x y i v b at at' s is m. Steps.at_TestY n x y i b at at' s v is m;
  back_b = λ n x y i b b' at at' s p m f. Steps.at_BackB n x y i b b' at at' s m f;
  await_y = λ n x y i v b at at' s is m. Steps.at_AwaitY n x y i b at at' s v is m;
  set_y = λ n x y i b at at' s m. Steps.at_SetY n x y i b at at' s m;
  test_x = λ n x y i v b at at' s is m. Steps.at_TestX n x y i b at at' s v is m;
  slow_b = λ n x y i b b' at at' s p m f. Steps.at_SlowB n x y i b b' at at' s m f;
  scan = λ n x y i j v b at at' s is m. Steps.at_Scan n x y i b at at' s j v is m;
  slow_y = λ n x y i v b at at' s is m. Steps.at_SlowY n x y i b at at' s v is m;
  slow_await = λ n x y i v b at at' s is m. Steps.at_SlowAwait n x y i b at at' s v is m;
  fast = λ n x y i b at at' s m. Steps.at_Fast n x y i b at at' s m;
  slow = λ n x y i b at at' s m. Steps.at_Slow n x y i b at at' s m;
  leaving = λ n x y i b b' at at' s p m f. Steps.at_Leaving n x y i b b' at at' s m f;
}
