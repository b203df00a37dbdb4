mod StartLoop
