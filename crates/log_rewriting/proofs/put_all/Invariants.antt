use Rattle.std.proofs.Common.{◌≡◌, ◌*◌, ◌≤◌, ◌++◌, length, drop}
use Rattle.log_format.specs.Closed.{to_play}
use Rattle.log_writing.specs.Writing.{open_frames, open_free, open_octets}
use Rattle.log_rewriting.proofs.put_all.Given as goal

-- what is put and what is still to be put are all frames; there are places for them; nothing is written behind
abbrev pub invariant-loop-frame : goal.invariant-loop-frame
invariant-loop-frame l =
    record {
      frames : open_frames l.into ++ to_play l.frame-iterator ≡ open_frames l.initial.into ++ to_play l.fn.frames;
      places : length (to_play l.frame-iterator) ≤ open_free l.into;
      size : length (open_octets l.into) ≡ length (open_octets l.initial.into);
      behind : drop (17 * length (open_frames l.into)) (open_octets l.into) ≡ drop (17 * length (open_frames l.into)) (open_octets l.initial.into);
    }
