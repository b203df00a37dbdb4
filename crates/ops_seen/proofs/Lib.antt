mod SeeLoops
