-- Whole files, and what they print, from the first byte to the last.
use Rattle.std.specs.Prelude.{◌≡◌, codes}
use Rattle.transcript.specs.Printed.{printed}

pub record WorkedFiles : Type 0 where
  -- the two-job sheet: a raise, a lower on the wrong side, a value between two ticks, and a search
  pub panel :
      printed (codes "bodies 2\njobs 3\ncalls 5\nstep 50\njob 2 10 10 0 -\njob 3 20 20 1 h\nallow 20\nraise 100 100\nlower 150 200\nask 120 100\nsearch\n")
      ≡ codes "kind T\nraised 150 250\nrefused 7 2 0 1\nrefused 3 1 0 0\nsettled 7 150 250\nleft 11\n"
  -- two rows that contradict each other
  pub crossed :
      printed (codes "bodies 2\nrows 3\ncalls 2\ngrades AB 1\nrow A B\nrow B A\nallow 9\nsearch\n")
      ≡ codes "kind G\npair 2 1 A B B A\nleft 7\n"
  -- a table with a hole
  pub unlisted :
      printed (codes "bodies 2\nrows 2\ncalls 2\ngrades AB 1\nrow B B\nallow 9\nsearch\n")
      ≡ codes "kind G\nrefused 5 1 1 1\nleft 8\n"
  -- a file without its last line end
  pub torn :
      printed (codes "bodies 2\nrows 1\ncalls 1\ngrades AB 1\nallow 9")
      ≡ codes "bad 20 5\n"
