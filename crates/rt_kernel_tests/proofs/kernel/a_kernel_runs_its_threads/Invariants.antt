use Rattle.rt_kernel_tests.proofs.kernel.a_kernel_runs_its_threads.Given as goal

abbrev pub ghosts-use_kernel : goal.ghosts-use_kernel
ghosts-use_kernel g a = record { name = a.blank.name; parts = a.blank.parts }
