use Rattle.fv_evaluation_tests.proofs.answers.+add_diagram.Given as goal

abbrev pub decreases-add_diagram : goal.decreases-add_diagram
decreases-add_diagram l = l.id
