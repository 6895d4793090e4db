-- Views as plain data, and the effect of the steps on them.
use Rattle.std.specs.Prelude.{ℕ, ◌+◌, ◌-◌, ◌==◌, [], ◌∷◌, ◌++◌, true, false, ◌||◌, if◌then◌else◌, nat_lt}
use Rattle.slh_board.specs.declared.view.View.{View}
use Rattle.slh_board.specs.declared.view.Plan.{Plan}

-- a view with no numbers, fresh, that represents n seats of a board
abbrev pub seats_of : ℕ → ℕ → ℕ → View
seats_of jobs board_seats n = record { jobs = jobs; board_seats = board_seats; seats = n; drawn = []; done = 0; stopped = false; raised = false }

-- the first seat represents all seats
abbrev pub first_view : Plan → View
first_view p = seats_of p.jobs p.seats p.seats

-- the rest of a view that was joined
abbrev pub spent : View
spent = seats_of 0 0 0

-- a split: the first view hands one seat over
abbrev pub one_less : View → View
one_less v = record v { seats = v.seats - 1 }

abbrev pub one_seat : View → View
one_seat v = seats_of v.jobs v.board_seats 1

-- a join: lists end to end, marks and seats added up
abbrev pub both : View → View → View
both v w = record { jobs = v.jobs; board_seats = v.board_seats; seats = v.seats + w.seats; drawn = v.drawn ++ w.drawn; done = v.done + w.done; stopped = v.stopped || w.stopped; raised = v.raised || w.raised }

-- after a look that found the board stopped
abbrev pub with_stopped : View → View
with_stopped v = record v { stopped = true }

-- after a draw of the job x
abbrev pub with_number : View → ℕ → View
with_number v x = record v { drawn = v.drawn ++ x ∷ [] }

-- after a draw that found no job left
abbrev pub with_done : View → View
with_done v = record v { done = v.done + 1 }

-- after a stop
abbrev pub with_raised : View → View
with_raised v = record v { raised = true }

-- a look that found n in halt
abbrev pub looked : View → ℕ → View
looked v n = if n == 0 then v else with_stopped v

-- a draw that found n in next
abbrev pub drew : View → ℕ → View
drew v n = if nat_lt n v.jobs then with_number v n else with_done v
